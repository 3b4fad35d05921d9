use Rattle.std.proofs.Common.{◌≡◌, ◌+◌, ◌++◌, length, map, take}
use Rattle.accumulator_pages.specs.Pages.{pages_scores}
use Rattle.topk_heap.specs.Private.Settling.{hit_of}
use Rattle.topk_heap.proofs.settling.add_noted.Given as goal

abbrev pub invariant-loop-doc : goal.invariant-loop-doc
invariant-loop-doc l = record {
  done : l.candidates.hits ≡ l.fn.candidates.hits ++ map (hit_of (pages_scores l.pages l.pool)) (take l.doc-index l.noted);
  few : length l.candidates.hits ≡ length l.fn.candidates.hits + l.doc-index;
  room : l.candidates.room ≡ l.fn.candidates.room;
}
