-- Who can't be among the first k any more, and who can't change places. This project's.
use Rattle.std.specs.Prelude.{◌≡◌, ◌≢◌, ℕ, ◌+◌, ◌<◌, ◌≤◌, ◌⊎◌, true, length, slice_index, AllPairs}
use Rattle.std.specs.List.{AllByRecursion}
use Rattle.std.specs.Ordering.{is_lt}
use Rattle.jass_base.specs.declared.answer.Hit.{Hit}
use Rattle.ranking_model.specs.declared.plan.QueryPlan.{QueryPlan}
use Rattle.ranking_model.specs.Scores.{rank_cmp, scores_after, top_k}
use Rattle.sharp_bounds.specs.Unseen.{unseen_bounds}

-- a document as it stands after the first n segments, and with all that it is unseen in
abbrev pub standing : ℕ → QueryPlan → ℕ → Hit
standing n plan doc = record { doc = doc; score = slice_index (scores_after n plan) doc }

abbrev pub reaching : ℕ → QueryPlan → ℕ → Hit
reaching n plan doc = record { doc = doc; score = slice_index (scores_after n plan) doc + slice_index (unseen_bounds n plan) doc }

-- the first ranks before the second
abbrev pub IsBefore : Hit → Hit → Type 0
IsBefore a b = is_lt (rank_cmp a b) ≡ true

-- the first document ranks before the second whatever each of them gains
abbrev pub IsApart : ℕ → QueryPlan → ℕ → ℕ → Type 0
IsApart n plan ahead behind = IsBefore (standing n plan ahead) (reaching n plan behind)

-- k documents are hit, and each of them ranks before the document whatever it gains
pub record IsOut (n : ℕ) (plan : QueryPlan) (k doc : ℕ) : Type 0 where
  pub full : length (top_k n plan k) ≡ k
  pub behind : AllByRecursion (λ hit. IsBefore hit (reaching n plan doc)) (top_k n plan k)

-- each document that isn't a hit and may have a score is out
abbrev pub AreOthersOut : ℕ → QueryPlan → ℕ → Type 0
AreOthersOut n plan k = (doc : ℕ) → doc < plan.docs → AllByRecursion (λ hit. hit.doc ≢ doc) (top_k n plan k) → 1 ≤ (reaching n plan doc).score → IsOut n plan k doc

-- of each two of the first k, one ranks before the other whatever they gain
abbrev pub AreHitsApart : ℕ → QueryPlan → ℕ → Type 0
AreHitsApart n plan k = AllPairs (λ a b. IsApart n plan a.doc b.doc ⊎ IsApart n plan b.doc a.doc) (top_k n plan k)
