-- Why a text is no query and a file no query file.
use Rattle.std.specs.Prelude.{ℕ, ◌≡◌, ⊤, Result, Ok, Err}
use Rattle.query_reader.specs.declared.refusal.QueryWhy.{QueryWhy}
use Rattle.query_reader.specs.declared.refusal.QueryWhy.TheVariants.{Text, NoId, Terms, Times, LineLong, FileLong}
use Rattle.query_reader.specs.declared.refusal.QueryRefusal.{QueryRefusal}
use Rattle.query_reader.specs.declared.refusal.QueryFault.{QueryFault}
use Rattle.query_reader.specs.declared.refusal.QueryFault.TheVariants as faults

-- the numbers of the refusals
abbrev pub number_of : QueryWhy → ℕ
number_of Text = 50
number_of NoId = 51
number_of Terms = 52
number_of Times = 53
number_of LineLong = 54
number_of FileLong = 55

-- what is read next, unless there was a refusal
infixl 10 ◌>>=◌
abbrev pub ◌>>=◌ : {A B E : Type 0} → Result A E → (A → Result B E) → Result B E
(Ok x) >>= f = f x
(Err e) >>= f = Err e

-- a refusal stands in this line
abbrev pub at_line : {A : Type 0} → ℕ → Result A QueryWhy → Result A QueryRefusal
at_line line (Ok x) = Ok x
at_line line (Err why) = Err (record { line = line; why = why })

-- a fault that a function answers is the refusal that reading gives; want of memory may come instead
abbrev pub Fails : {Y : Type 0} → QueryFault → Result Y QueryRefusal → Type 0
Fails (faults.Refused refusal) read = read ≡ Err refusal
Fails faults.NoMemory read = ⊤

-- what a function answers, seen by view, is what reading gives
abbrev pub Answers : {X Y : Type 0} → (X → Y) → Result X QueryFault → Result Y QueryRefusal → Type 0
Answers view (Ok x) read = read ≡ Ok (view x)
Answers view (Err fault) read = Fails fault read
