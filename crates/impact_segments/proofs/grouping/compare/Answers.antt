-- The numbers are in the order of the pairs.
use Rattle.std.proofs.Common.{ap₂, sym, ◌∙◌, nat_cmp}
use Rattle.impact_segments.proofs.Orders.{in_key_order}
use Rattle.impact_segments.proofs.grouping.compare.Goals as goal

pub returns : goal.returns
returns c = c.cmp.ensures ∙ ap₂ nat_cmp c.key.ensures.key c.key-2.ensures.key
    ∙ sym (in_key_order c.args.a c.args.b c.key.ensures.doc c.key.ensures.impact c.key-2.ensures.doc c.key-2.ensures.impact)
