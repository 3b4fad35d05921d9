use Rattle.std.proofs.Common.{◌≡◌, drop}
use Rattle.accumulator_pages.specs.Pages.{pages_places}
use Rattle.topk_heap.specs.Places.{KeepsScores}
use Rattle.topk_heap.specs.Private.Settling.{without_places}
use Rattle.topk_heap.proofs.settling.clear_places.Given as goal

abbrev pub invariant-loop-hit : goal.invariant-loop-hit
invariant-loop-hit l = record {
  left : without_places (drop l.hit-index l.hits) (pages_places l.pages l.pool) ≡ without_places l.hits (pages_places l.fn.pages l.fn.pool);
  keeps : KeepsScores l.fn.pages l.pages l.fn.pool l.pool;
}
