-- What contracts see of the scores of a session.
use Rattle.std.specs.Prelude.{ℕ, Bool}
use Rattle.accumulator_pages.specs.Reached.{ReachedView}
use Rattle.accumulator_pages.specs.View.{PagesView}
use Rattle.jass_base.specs.declared.answer.Hit.{Hit}
use Rattle.topk_heap.specs.Standing.{TopView}

-- the pages with the scores, the first documents as they were last ranked, who was noted since the last cut and the hit
-- that each of these passed, and whether all that was added is in the first documents
pub record ScoresView : Type 0 where
  pub pages : PagesView
  pub top : TopView
  pub reached : ReachedView
  pub last : Hit
  pub settled : Bool

-- for how many entries of the page table, how many notes and how many raised documents at a time there is room
pub record ScoresRoom : Type 0 where
  pub table : ℕ
  pub notes : ℕ
  pub raised : ℕ
