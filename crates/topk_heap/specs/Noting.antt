-- Which documents are noted while scores rise over a heap.
use Rattle.std.specs.Prelude.{◌≡◌, ◌≢◌, ℕ, ◌+◌, ◌<◌, ◌≤◌, ◌⊎◌, List, Option, Some, None, length, slice_index, count_by, All, AllPairs, Contains}
use Rattle.std.specs.Ordering.{is_gt}
use Rattle.jass_base.specs.declared.answer.Hit.{Hit}
use Rattle.ranking_model.specs.Scores.{rank_cmp, hits_from}
use Rattle.accumulator_pages.specs.Adding.{score_to_pass}
use Rattle.topk_heap.specs.Standing.{IsPlaced, TopView, with_heap}

-- the hit that exactly those ranked at a hit or ahead of it pass; where there is none document 0 with score 0, which any
-- score passes
abbrev pub just_behind : Option Hit → Hit
just_behind None = record { doc = 0; score = 0 }
just_behind (Some hit) = record { doc = hit.doc + 1; score = hit.score }

-- the document's score passes the hit
pub record Passes (last : Hit) (scores : List ℕ) (doc : ℕ) : Type 0 where
  pub inside : doc < length scores
  pub passed : score_to_pass last doc ≤ slice_index scores doc

-- any score passes the hit, or at least m documents do
abbrev pub LetsPass : Hit → List ℕ → ℕ → Type 0
LetsPass last scores m = (last ≡ just_behind None) ⊎ (m ≤ count_by (λ hit. is_gt (rank_cmp last hit)) (hits_from 0 scores))

-- the documents of the heap have scores; whoever passes the hit is one of them or noted; those noted pass it, each noted
-- once; no document without a score passes it, and k + 1 documents do, or all that have one
pub record AreNoted (top : TopView) (last : Hit) (scores places noted : List ℕ) : Type 0 where
  pub placed : IsPlaced top scores places
  pub all : (doc : ℕ) → Passes last scores doc → Contains (with_heap top noted) doc
  pub only : All (Passes last scores) noted
  pub once : AllPairs (λ a b. a ≢ b) noted
  pub some : (doc : ℕ) → 1 ≤ score_to_pass last doc
  pub enough : LetsPass last scores (top.k + 1)
