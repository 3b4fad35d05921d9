-- Each posting gives one pair more.
use Rattle.std.proofs.Common.{ℕ, List, length, map, sym, subst, All}
use Rattle.impact_segments.proofs.Below.{Posting, IsInRange}
use Rattle.impact_segments.specs.Private.Weighed.{posting_weight}
use Rattle.impact_segments.proofs.OneTerm.{all_map_at, paired_more}
use Rattle.impact_segments.proofs.Weights.{item_below}
use Rattle.impact_segments.proofs.terms.impacts_of.Goals as goal

pub impact_of-impact-requires-clause-in_range : goal.impact_of-impact-requires-clause-in_range
impact_of-impact-requires-clause-in_range c =
    let P : ℕ → Type 0 = λ (w : ℕ). IsInRange c.args.bits c.args.range w in
    let Q : List Posting → Type 0 = λ (l : List Posting). All P (map (posting_weight c.args.weigher.now.rule c.args.weigher.now.docs.now c.args.list.now) l) in
    subst P (sym (c.weigh.ensures.value (length c.args.list.now.postings) c.rarity-rare.ensures.value))
    (all_map_at P (posting_weight c.args.weigher.now.rule c.args.weigher.now.docs.now c.args.list.now) c.as_slice-posting-items.result.now c.loop-posting.posting-index (record { doc = 0; tf = 0 }) c.loop-posting-test.true
    (subst Q (sym c.as_slice-posting-items.ensures) c.requires.in_range))

pub loop-posting-preserved : goal.loop-posting-preserved
loop-posting-preserved c =
    paired_more c.args.weigher.now.rule c.args.weigher.now.docs.now c.args.bits c.args.range c.args.list.now c.loop-posting.pairs.items c.push.new.self.items c.as_slice-posting-items.result.now c.loop-posting.posting-index
    (record { doc = 0; tf = 0 }) c.impact_of-impact.result c.weigh.result c.loop-posting-test.true c.in_ok-push.ensures.items c.impact_of-impact.ensures.value
    (c.weigh.ensures.value (length c.args.list.now.postings) c.rarity-rare.ensures.value) c.impact_of-impact.ensures.positive c.loop-posting.invariant

pub weigh-requires-clause-below : goal.weigh-requires-clause-below
weigh-requires-clause-below c = item_below (length c.args.weigher.now.docs.now) c.args.list.now c.as_slice-posting-items.result.now c.loop-posting.posting-index (record { doc = 0; tf = 0 }) c.as_slice-posting-items.ensures c.loop-posting-test.true c.requires.below
