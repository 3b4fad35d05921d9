-- One mention more. This project's.
use Rattle.std.specs.Prelude.{ℕ, ◌+◌, ◌≡◌, ◌==◌, List, [], ◌∷◌, Option, Some, None, Result, Ok, Err, if◌then◌else◌}
use Rattle.jass_base.specs.declared.query_term.QueryTerm.{QueryTerm}
use Rattle.query_reader.specs.declared.refusal.QueryWhy.{QueryWhy}
use Rattle.query_reader.specs.declared.refusal.LineFault.{LineFault}
use Rattle.query_reader.specs.declared.refusal.LineFault.TheVariants as line_faults
use Rattle.query_reader.specs.Mentions.{Mention, term_number}
use Rattle.query_reader.specs.Refusals.{◌>>=◌}
use Rattle.query_reader.specs.Private.Lines.{LineFails}
use Rattle.query_reader.specs.Reading.{broken_limit, unless}

-- the terms with one of them named by a factor more, or behind the others where it isn't among them
abbrev pub tallied : List QueryTerm → ℕ → ℕ → List QueryTerm
tallied [] number factor = record { term = number; times = factor } ∷ []
tallied (n ∷ ns) number factor = if n.term == number then record n { times = n.times + factor } ∷ ns else n ∷ tallied ns number factor

-- what mentions name, and how many of them name no term
pub record TallyData : Type 0 where
  pub named : List QueryTerm
  pub unknown : ℕ

-- one mention more, of the term with a number or of none
abbrev pub counted_in : TallyData → Option ℕ → ℕ → Result TallyData QueryWhy
counted_in tally None factor = Ok (record tally { unknown = tally.unknown + 1 })
counted_in tally (Some number) factor =
    let named = tallied tally.named number factor in
    unless (broken_limit named) (record tally { named = named })

-- mentions more, up to the first that breaks a limit
unfoldable pub all_counted_in : List (List ℕ) → TallyData → List Mention → Result TallyData QueryWhy
all_counted_in terms tally [] = Ok tally
all_counted_in terms tally (m ∷ mentions) = counted_in tally (term_number terms m) m.factor >>= λ more. all_counted_in terms more mentions

-- a function that counts mentions into a tally leaves the new one, or answers the refusal
abbrev pub CountsIn : Result TallyData QueryWhy → TallyData → Result (Unit {0}) LineFault → Type 0
CountsIn counted new (Ok done) = counted ≡ Ok new
CountsIn counted new (Err fault) = LineFails fault counted

-- the same of the named terms alone
abbrev pub TalliesIn : List QueryTerm → ℕ → ℕ → List QueryTerm → Result (Unit {0}) LineFault → Type 0
TalliesIn old number factor new (Ok done) = (new ≡ tallied old number factor) × (broken_limit new ≡ None)
TalliesIn old number factor new (Err (line_faults.Refused why)) = (new ≡ old) × (broken_limit (tallied old number factor) ≡ Some why)
TalliesIn old number factor new (Err line_faults.NoMemory) = new ≡ old
