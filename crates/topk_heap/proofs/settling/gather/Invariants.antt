use Rattle.std.proofs.Common.{◌≡◌, ◌≤◌, ◌+◌, ◌++◌, length, drop}
use Rattle.accumulator_pages.specs.Pages.{pages_places, pages_scores}
use Rattle.topk_heap.specs.Private.Settling.{newcomers}
use Rattle.topk_heap.proofs.settling.gather.Given as goal

abbrev pub invariant-loop-doc : goal.invariant-loop-doc
invariant-loop-doc l = record {
  left : l.hits.hits ++ newcomers (pages_scores l.pages l.pool) (pages_places l.pages l.pool) (drop l.doc-index l.raised)
      ≡ l.fn.hits.hits ++ newcomers (pages_scores l.pages l.pool) (pages_places l.pages l.pool) l.raised;
  few : length l.hits.hits ≤ length l.fn.hits.hits + l.doc-index;
  room : l.hits.room ≡ l.fn.hits.room;
}
