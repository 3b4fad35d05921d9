-- Each posting is weighed by its term's rarity.
use Rattle.std.proofs.Common.{length, fold, ap, arith}
use Rattle.impact_segments.proofs.Below.{Range, widened}
use Rattle.impact_segments.specs.Private.Weighed.{posting_weight, list_weights}
use Rattle.impact_segments.proofs.Weights.{item_below, widened_more}
use Rattle.impact_segments.proofs.weighing.Weigher.widen.Goals as goal

pub weigh-requires-clause-below : goal.weigh-requires-clause-below
weigh-requires-clause-below c = item_below (length c.args.self.now.docs.now) c.args.list.now c.as_slice-posting-items.result.now c.loop-posting.posting-index (record { doc = 0; tf = 0 }) c.as_slice-posting-items.ensures c.loop-posting-test.true c.requires.below

pub loop-posting-preserved : goal.loop-posting-preserved
loop-posting-preserved c = record {
  value = widened_more (posting_weight c.args.self.now.rule c.args.self.now.docs.now c.args.list.now) c.loop-posting.range c.widen.new.self
      (fold widened c.args.range.now (list_weights c.args.self.now.rule c.args.self.now.docs.now c.args.list.now)) c.as_slice-posting-items.result.now c.loop-posting.posting-index (record { doc = 0; tf = 0 })
      c.weigh.result c.loop-posting-test.true (c.weigh.ensures.value (length c.args.list.now.postings) c.rarity-rare.ensures.value) c.widen.ensures c.loop-posting.invariant.value;
  limit = omega (arith, ap (λ (r : Range). r.greatest) c.widen.ensures, c.loop-posting.invariant.limit, c.weigh.ensures.limit);
}
