use Rattle.std.proofs.Common.{arith}
use Rattle.accumulator_pages.proofs.NearBits.{near_done, near_more, none_yet}
use Rattle.accumulator_pages.proofs.near.near_bits.Goals as goal

pub loop-at-init : goal.loop-at-init
loop-at-init c = none_yet c.args.w c.args.from c.args.slots.now c.args.bits.now

pub loop-at-preserved : goal.loop-at-preserved
loop-at-preserved c =
    near_more c.args.w c.args.from c.loop-at.at c.near_byte.result c.args.slots.now c.args.bits.now c.loop-at.near c.ranges.from.fits (λ i. (c.type_inv.slots i).fits)
    c.requires.rose (omega (arith, c.loop-at-test.true, c.requires.few)) c.near_byte.ensures c.loop-at.invariant

pub returns : goal.returns
returns c = near_done c.args.w c.args.from c.loop-at.at c.args.slots.now c.args.bits.now c.loop-at.near c.loop-at-test.false c.loop-at.invariant
