use Rattle.std.proofs.Common.{◌≡◌, ◌++◌, ◌<◌, All, length, map, take, drop}
use Rattle.accumulator_pages.specs.Pages.{docs_of, pages_scores}
use Rattle.topk_heap.specs.Private.Settling.{rescored}
use Rattle.topk_heap.proofs.settling.rescore.Given as goal

abbrev pub invariant-loop-index : goal.invariant-loop-index
invariant-loop-index l = record {
  inside : All (λ hit. hit.doc < docs_of l.pages) l.hits.hits;
  left : take l.index l.hits.hits ++ map (rescored (pages_scores l.pages l.pool)) (drop l.index l.hits.hits) ≡ map (rescored (pages_scores l.pages l.pool)) l.fn.hits.hits;
  room : l.hits.room ≡ l.fn.hits.room;
  size : length l.hits.hits ≡ length l.fn.hits.hits;
}
