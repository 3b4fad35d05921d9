use Rattle.std.proofs.Common.{◌≡◌, ◌+◌, length, drop}
use Rattle.accumulator_pages.specs.Pages.{pages_places}
use Rattle.topk_heap.specs.Places.{KeepsScores}
use Rattle.topk_heap.specs.Private.Settling.{with_places}
use Rattle.topk_heap.proofs.settling.set_places.Given as goal

abbrev pub invariant-loop-hit : goal.invariant-loop-hit
invariant-loop-hit l = record {
  left : with_places (drop l.hit-index l.hits) (pages_places l.pages l.pool) ≡ with_places l.hits (pages_places l.fn.pages l.fn.pool);
  place : l.place + l.hit-index ≡ length l.hits;
  keeps : KeepsScores l.fn.pages l.pages l.fn.pool l.pool;
}
