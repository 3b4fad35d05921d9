-- When what is unscored can change nothing. This project's: by all gains of all documents, never by neighbouring hits.
use Rattle.std.specs.Prelude.{◌≡◌, ℕ, ◌+◌, ◌≤◌, List, [], ◌∷◌, map, length, IsPermutation}
use Rattle.std.specs.List.{AllByRecursion, AllZip}
use Rattle.jass_base.specs.declared.answer.Grade.{Grade}
use Rattle.jass_base.specs.declared.answer.Grade.TheVariants.{Final, Set, Open}
use Rattle.ranking_model.specs.declared.plan.QueryPlan.{QueryPlan}
use Rattle.ranking_model.specs.Scores.{first_ranked, scores_after, bound_after}

-- a gain from 0 to the bound for each of the scores
pub record AreGains (bound : ℕ) (scores gains : List ℕ) : Type 0 where
  pub each : length gains ≡ length scores
  pub within : AllByRecursion (λ gain. gain ≤ bound) gains

-- a gain for each of the scores, from 0 to its limit; there are as many limits as scores
pub record AreGainsWithin (limits scores gains : List ℕ) : Type 0 where
  pub each : length gains ≡ length scores
  pub within : AllZip (λ gain limit. gain ≤ limit) gains limits

-- each score with its gain
abbrev pub raised : List ℕ → List ℕ → List ℕ
raised [] gains = []
raised (score ∷ scores) [] = score ∷ scores
raised (score ∷ scores) (gain ∷ gains) = (score + gain) ∷ raised scores gains

-- the later scores are the scores with some such gains
pub record GainsBy (AreSuch : List ℕ → Type 0) (scores later : List ℕ) : Type 0 where
  pub gains : List ℕ
  pub within : AreSuch gains
  pub reach : raised scores gains ≡ later

abbrev pub GainsUpTo : ℕ → List ℕ → List ℕ → Type 0
GainsUpTo bound scores later = GainsBy (AreGains bound scores) scores later

-- the documents of the first k
abbrev pub first_documents : List ℕ → ℕ → List ℕ
first_documents scores k = map (λ hit. hit.doc) (first_ranked scores k)

-- no such gains change the first k documents or their order
abbrev pub IsSettledBy : (List ℕ → Type 0) → List ℕ → ℕ → Type 0
IsSettledBy AreSuch scores k = (gains : List ℕ) → AreSuch gains → first_documents (raised scores gains) k ≡ first_documents scores k

-- none change which documents they are
abbrev pub IsKeptBy : (List ℕ → Type 0) → List ℕ → ℕ → Type 0
IsKeptBy AreSuch scores k = (gains : List ℕ) → AreSuch gains → IsPermutation (first_documents scores k) (first_documents (raised scores gains) k)

-- by gains up to a bound for all documents
abbrev pub IsSettled : List ℕ → ℕ → ℕ → Type 0
IsSettled scores k bound = IsSettledBy (AreGains bound scores) scores k

abbrev pub IsKept : List ℕ → ℕ → ℕ → Type 0
IsKept scores k bound = IsKeptBy (AreGains bound scores) scores k

-- by gains up to a limit for each document
abbrev pub IsSettledWithin : List ℕ → ℕ → List ℕ → Type 0
IsSettledWithin scores k limits = IsSettledBy (AreGainsWithin limits scores) scores k

abbrev pub IsKeptWithin : List ℕ → ℕ → List ℕ → Type 0
IsKeptWithin scores k limits = IsKeptBy (AreGainsWithin limits scores) scores k

-- the answer after the first n segments: what is unscored changes neither its documents nor their order
abbrev pub IsFinal : ℕ → QueryPlan → ℕ → Type 0
IsFinal n plan k = IsSettled (scores_after n plan) k (bound_after n plan)

-- it doesn't change which documents they are
abbrev pub IsSet : ℕ → QueryPlan → ℕ → Type 0
IsSet n plan k = IsKept (scores_after n plan) k (bound_after n plan)

-- a grade: final where the answer is settled, set where it is kept and not settled, open where it is neither
abbrev pub IsGradeOf : Type 0 → Type 0 → Grade → Type 0
IsGradeOf settled kept Final = settled
IsGradeOf settled kept Set = kept × (¬ settled)
IsGradeOf settled kept Open = (¬ settled) × (¬ kept)

-- the grade of scores by a bound, and by limits
abbrev pub IsGrade : List ℕ → ℕ → ℕ → Grade → Type 0
IsGrade scores k bound grade = IsGradeOf (IsSettled scores k bound) (IsKept scores k bound) grade

abbrev pub IsGradeWithin : List ℕ → ℕ → List ℕ → Grade → Type 0
IsGradeWithin scores k limits grade = IsGradeOf (IsSettledWithin scores k limits) (IsKeptWithin scores k limits) grade
