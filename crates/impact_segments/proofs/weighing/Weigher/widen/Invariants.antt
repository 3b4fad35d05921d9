use Rattle.std.proofs.Common.{◌≡◌, ◌<◌, ◌^◌, drop, fold, map}
use Rattle.weights.specs.Quantizing.{widened}
use Rattle.impact_segments.specs.Private.Weighed.{posting_weight, list_weights}
use Rattle.impact_segments.proofs.weighing.Weigher.widen.Given as goal

abbrev pub invariant-loop-posting : goal.invariant-loop-posting
invariant-loop-posting l = record {
  value : fold widened l.range (map (posting_weight l.self.rule l.self.docs.now l.list) (drop l.posting-index l.posting-items)) ≡ fold widened l.fn.range (list_weights l.self.rule l.self.docs.now l.list);
  limit : l.range.greatest < 2 ^ 31;
}
