use Rattle.std.proofs.Common.{◌^◌, ◌-◌, get_or, length-set, ◌∙◌, arith}
use Rattle.codec_packed.proofs.Turns.{turn, gaps_more, gaps_all}
use Rattle.codec_packed.proofs.block.block_gaps.Goals as goal

pub loop-i-preserved : goal.loop-i-preserved
loop-i-preserved c =
    let is = c.loop-i.invariant in
    let t = turn (2 ^ 26) c.loop-i.next c.loop-i.i c.args.docs.now is.1 (omega arith) in (
      length-set c.loop-i.gaps c.loop-i.i (get_or c.args.docs.now c.loop-i.i 0 - c.loop-i.next) ∙ is.0,
      t.are,
      gaps_more (2 ^ 26) c.loop-i.next c.loop-i.i c.args.docs.now c.loop-i.gaps _ t (omega (arith, is.0)) is.2,
    )

pub returns : goal.returns
returns c = gaps_all c.loop-i.next c.loop-i.i c.args.docs.now c.loop-i.gaps _ c.requires.count c.loop-i.invariant.0 (omega arith) c.loop-i.invariant.2
