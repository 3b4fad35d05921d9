-- What the fields of scores keep.
use Rattle.std.specs.Prelude.{◌≡◌, ℕ, ◌+◌, ◌≤◌}
use Rattle.accumulator_pages.specs.Reached.{ReachedView}
use Rattle.accumulator_pages.specs.View.{PagesView}
use Rattle.jass_base.specs.declared.limits.TheConstants.{MOST_HITS}
use Rattle.topk_heap.specs.Standing.{TopView}

-- notes are cut at a limit, which each cut sets anew, and there is room for the k + 1 that a cut keeps and as many more
-- with a block, and for all notes in the heap; k is at most 100,000
pub record HasRooms (documents more most : ℕ) (pages : PagesView) (top : TopView) (reached : ReachedView) : Type 0 where
  pub docs : documents ≡ pages.docs
  pub step : more ≡ top.k + 1 + 128
  pub few : top.k ≤ MOST_HITS
  pub limit : most ≤ reached.room
  pub block : top.k + 1 + more ≤ reached.room
  pub room : reached.room ≤ top.room
