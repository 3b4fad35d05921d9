-- What candidates stand for while documents come by rising number.
use Rattle.std.specs.Prelude.{ℕ, ◌≡◌, ◌<◌, ◌≤◌, ◌⊎◌, true, ◌==◌, List, length, slice_index, count_by, Contains}
use Rattle.std.specs.List.{AllByRecursion}
use Rattle.std.specs.Ordering.{is_lt}
use Rattle.jass_base.specs.declared.answer.Hit.{Hit}
use Rattle.ranking_model.specs.Scores.{rank_cmp}

-- the hit of a document
abbrev pub hit_of : List ℕ → ℕ → Hit
hit_of scores doc = record { doc = doc; score = slice_index scores doc }

-- documents with their scores, each once
pub record AreScored (scores : List ℕ) (hits : List Hit) : Type 0 where
  pub scored : AllByRecursion (λ hit. (hit.doc < length scores) × (1 ≤ hit.score) × (hit.score ≡ slice_index scores hit.doc)) hits
  pub once : (doc : ℕ) → count_by (λ hit. hit.doc == doc) hits ≤ 1

-- k documents rank before this one
pub record IsBeaten (scores : List ℕ) (k doc : ℕ) : Type 0 where
  pub ahead : List Hit
  pub are : AreScored scores ahead
  pub many : k ≤ length ahead
  pub before : AllByRecursion (λ hit. is_lt (rank_cmp hit (hit_of scores doc)) ≡ true) ahead

-- the document has no score, or can't be among the first k
abbrev pub IsPassed : List ℕ → ℕ → ℕ → Type 0
IsPassed scores k doc = 1 ≤ slice_index scores doc → IsBeaten scores k doc

-- no document from one on whose score is at most the threshold is among the first k
abbrev pub Misses : List ℕ → ℕ → ℕ → ℕ → Type 0
Misses scores k threshold from = (doc : ℕ) → from ≤ doc → doc < length scores → 1 ≤ slice_index scores doc → slice_index scores doc ≤ threshold → IsBeaten scores k doc

-- of the documents below one, the candidates have each that may be among the first k; those from it on must pass the threshold
pub record Stands (scores : List ℕ) (k doc threshold : ℕ) (candidates : List Hit) : Type 0 where
  pub are : AreScored scores candidates
  pub met : AllByRecursion (λ hit. hit.doc < doc) candidates
  pub kept : (d : ℕ) → d < doc → d < length scores → 1 ≤ slice_index scores d → Contains candidates (hit_of scores d) ⊎ IsBeaten scores k d
  pub misses : Misses scores k threshold doc
