-- What the fields of a heap keep.
use Rattle.std.specs.Prelude.{◌≡◌, ◌≢◌, ℕ, ◌+◌, ◌<◌, ◌≤◌, true, List, [], ◌∷◌, ⊤, length}
use Rattle.std.specs.List.{AllByRecursion}
use Rattle.std.specs.Ordering.{is_gt}
use Rattle.jass_base.specs.declared.answer.Hit.{Hit}
use Rattle.jass_base.specs.declared.limits.TheConstants.{MOST_HITS}
use Rattle.ranking_model.specs.Scores.{rank_cmp}
use Rattle.topk_heap.specs.Hits.{HitsView}

-- each hit ranks before all behind it, and no document is there twice
abbrev pub AreInOrder : List Hit → Type 0
AreInOrder [] = ⊤
AreInOrder (hit ∷ hits) = AllByRecursion (λ other. (is_gt (rank_cmp other hit) ≡ true) × (other.doc ≢ hit.doc)) hits × AreInOrder hits

-- hits in order, at most k + 1 of them, with room for at least one document more, and just as much room aside; k is at
-- most 100,000
pub record IsTop (k : ℕ) (row aside : HitsView) : Type 0 where
  pub order : AreInOrder row.hits
  pub few : length row.hits ≤ k + 1
  pub small : k ≤ MOST_HITS
  pub room : k + 1 < row.room
  pub beside : aside.room ≡ row.room
