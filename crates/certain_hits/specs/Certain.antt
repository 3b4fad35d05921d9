-- Which of the first k documents stay among them whatever is still gained, and how many. This project's: by all gains
-- of all documents, never by neighbouring hits.
use Rattle.std.specs.Prelude.{◌≡◌, ℕ, Bool, true, List, count_by, Contains}
use Rattle.std.specs.List.{AllByRecursion}
use Rattle.ranking_model.specs.declared.plan.QueryPlan.{QueryPlan}
use Rattle.ranking_model.specs.Scores.{first_ranked, scores_after}
use Rattle.ranking_model.specs.Finality.{AreGains, AreGainsWithin, raised, first_documents}
use Rattle.sharp_bounds.specs.Unseen.{unseen_bounds}

-- the document is among the first k with any such gains
abbrev pub IsCertainBy : (List ℕ → Type 0) → List ℕ → ℕ → ℕ → Type 0
IsCertainBy AreSuch scores k doc =
    (gains : List ℕ) → AreSuch gains → Contains (first_documents (raised scores gains) k) doc

-- by gains up to a limit for each document
abbrev pub IsCertainWithin : List ℕ → ℕ → List ℕ → ℕ → Type 0
IsCertainWithin scores k limits doc = IsCertainBy (AreGainsWithin limits scores) scores k doc

-- by gains up to a bound for all documents
abbrev pub IsCertainUpTo : List ℕ → ℕ → ℕ → ℕ → Type 0
IsCertainUpTo scores k bound doc = IsCertainBy (AreGains bound scores) scores k doc

-- so many of these are such: a test tells each of them, and so many pass it
pub record IsCountOf {A : Type 0} (IsSuch : A → Type 0) (all : List A) (many : ℕ) : Type 0 where
  pub test : A → Bool
  pub right : AllByRecursion (λ x. test x ≡ true → IsSuch x) all
  pub complete : AllByRecursion (λ x. IsSuch x → test x ≡ true) all
  pub passed : count_by test all ≡ many

-- how many of the first k documents are certain
abbrev pub IsCertainCount : List ℕ → ℕ → List ℕ → ℕ → Type 0
IsCertainCount scores k limits many =
    IsCountOf (λ hit. IsCertainWithin scores k limits hit.doc) (first_ranked scores k) many

-- the document is certain after the first n segments: no gains within what each document is unseen in put it out of the
-- first k
abbrev pub IsCertain : ℕ → QueryPlan → ℕ → ℕ → Type 0
IsCertain n plan k doc = IsCertainWithin (scores_after n plan) k (unseen_bounds n plan) doc

-- so many documents are certain after the first n segments
abbrev pub IsCertainCountAfter : ℕ → QueryPlan → ℕ → ℕ → Type 0
IsCertainCountAfter n plan k many = IsCertainCount (scores_after n plan) k (unseen_bounds n plan) many
