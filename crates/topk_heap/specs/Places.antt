-- What calls on heap places leave.
use Rattle.std.specs.Prelude.{◌≡◌, length}
use Rattle.frame_pool.specs.Pool.{PoolView}
use Rattle.frame_pool.specs.ChainView.{LeavesPool}
use Rattle.accumulator_pages.specs.declared.pages.Pages.{Pages}
use Rattle.accumulator_pages.specs.Pages.{ArePagesOf, Stands, own_chain, own_view, pages_scores}

-- a call on the heap places of some pages leaves their scores, how many frames they have, and each other chain
pub record KeepsScores (before after : Pages) (old new : PoolView) : Type 0 where
  pub scores : pages_scores after new ≡ pages_scores before old
  pub frames : length (own_view after new).frames ≡ length (own_view before old).frames
  pub stands : Stands after new
  pub same : ArePagesOf before after
  pub leaves : LeavesPool old new (own_chain before)
