use Rattle.std.proofs.Common.{◌≡◌, ◌+◌, ◌-◌, ◌≤◌, ◌++◌, length, drop}
use Rattle.frame_pool.specs.ChainView.{LeavesPool}
use Rattle.accumulator_pages.specs.Adding.{added, raised}
use Rattle.accumulator_pages.specs.Pages.{ArePagesOf, HasRoomFor, Stands, docs_of, own_chain, own_view, pages_places, pages_scores}
use Rattle.accumulator_pages.proofs.pages.Pages.add_all.Given as goal

abbrev pub invariant-loop-doc : goal.invariant-loop-doc
invariant-loop-doc l = record {
  stands : Stands l.self l.pool;
  same : ArePagesOf l.fn.self l.self;
  left : added l.w (drop l.doc-index l.docs) (pages_scores l.self l.pool) ≡ added l.w l.docs (pages_scores l.fn.self l.fn.pool);
  noted : l.reached.docs ++ raised l.w l.last (drop l.doc-index l.docs) (pages_scores l.self l.pool) ≡ l.fn.reached.docs ++ raised l.w l.last l.docs (pages_scores l.fn.self l.fn.pool);
  few : length l.reached.docs ≤ length l.fn.reached.docs + l.doc-index;
  room : l.reached.room ≡ l.fn.reached.room;
  places : pages_places l.self l.pool ≡ pages_places l.fn.self l.fn.pool;
  frames : length (own_view l.self l.pool).frames ≤ length (own_view l.fn.self l.fn.pool).frames + l.doc-index;
  promise : HasRoomFor (own_view l.self l.pool) (docs_of l.fn.self) (length l.docs - l.doc-index);
  leaves : LeavesPool l.fn.pool l.pool (own_chain l.fn.self);
}
