use Rattle.std.proofs.Common.{◌≡◌, ◌<◌, ◌^◌, drop, fold, flat_map}
use Rattle.weights.specs.Quantizing.{widened, range_of}
use Rattle.impact_segments.specs.Private.Weighed.{list_weights}
use Rattle.impact_segments.proofs.weighing.Weigher.range.Given as goal

abbrev pub invariant-loop-list : goal.invariant-loop-list
invariant-loop-list l = record {
  value : fold widened l.range (flat_map (list_weights l.self.rule l.self.docs.now) (drop l.list-index l.lists)) ≡ range_of (flat_map (list_weights l.self.rule l.self.docs.now) l.lists);
  limit : l.range.greatest < 2 ^ 31;
}
