-- Why bytes are no index file, and steps that may refuse. The numbers are this project's.
use Rattle.std.specs.Prelude.{ℕ, ◌≡◌, ⊤, Bool, List, [], ◌∷◌, Result, Ok, Err, if◌then◌else◌}
use Rattle.jass_base.specs.PayloadFaults.{fault_number}
use Rattle.index_layout.specs.declared.refusal.OpenWhy.{OpenWhy}
use Rattle.index_layout.specs.declared.refusal.OpenWhy.TheVariants.{Old, Magic, Length, Names, TermOrder, Heads, Payload, DocTwice, Totals, Limit}
use Rattle.index_layout.specs.declared.refusal.OpenRefusal.{OpenRefusal}
use Rattle.index_layout.specs.declared.refusal.OpenFault.{OpenFault}
use Rattle.index_layout.specs.declared.refusal.OpenFault.TheVariants as faults

-- the numbers of the refusals; a payload's fault has its own
abbrev pub number_of : OpenWhy → ℕ
number_of Old = 39
number_of Magic = 40
number_of Length = 41
number_of Names = 42
number_of TermOrder = 43
number_of Heads = 44
number_of (Payload fault) = fault_number fault
number_of DocTwice = 46
number_of Totals = 47
number_of Limit = 48

-- what is read next, unless there was a refusal
infixl 10 ◌>>=◌
abbrev pub ◌>>=◌ : {A B : Type 0} → Result A OpenRefusal → (A → Result B OpenRefusal) → Result B OpenRefusal
(Ok x) >>= f = f x
(Err refusal) >>= f = Err refusal

abbrev pub refuse : {A : Type 0} → ℕ → OpenWhy → Result A OpenRefusal
refuse at why = Err (record { at = at; why = why })

-- a test, and what is refused at a place where it holds
pub record Check : Type 0 where
  pub wrong : Bool
  pub at : ℕ
  pub why : OpenWhy

abbrev pub check : Bool → ℕ → OpenWhy → Check
check wrong at why = record { wrong = wrong; at = at; why = why }

-- the first refusal of checks in their order, and else the value
abbrev pub judged : {A : Type 0} → List Check → A → Result A OpenRefusal
judged [] x = Ok x
judged (c ∷ checks) x = if c.wrong then refuse c.at c.why else judged checks x

-- a fault that a function answers for given bytes is the refusal that reading gives; want of memory may come instead,
-- a read fault never
abbrev pub Fails : {Y : Type 0} → OpenFault → Result Y OpenRefusal → Type 0
Fails (faults.Refused refusal) read = read ≡ Err refusal
Fails faults.ReadFault read = ⊥
Fails faults.NoMemory read = ⊤

-- what a function answers, seen by view, is what reading gives
abbrev pub Answers : {X Y : Type 0} → (X → Y) → Result X OpenFault → Result Y OpenRefusal → Type 0
Answers view (Ok x) read = read ≡ Ok (view x)
Answers view (Err fault) read = Fails fault read
