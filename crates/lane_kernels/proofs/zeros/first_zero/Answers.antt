use Rattle.shared_lemmas.proofs.Common.{eqb, arith, w32, length-chunk, bitmask_splat}
use Rattle.lane_kernels.proofs.Places.{first_in_chunk, none_in_chunk, none_is_zero}
use Rattle.lane_kernels.proofs.zeros.first_zero.Goals as goal
use lib.Lanes.{chunk}

abbrev found : goal.returns-then-zeros-ne0-clause-place
found c =
    first_in_chunk c.args.slots.now c.loop-at.at c.loop-at-test.true c.loop-at.invariant.before _
    (bitmask_splat w32 eqb (chunk c.loop-at.at 16 c.args.slots.now) 16 0 (length-chunk c.loop-at.at 16 c.args.slots.now c.loop-at-test.true) (omega arith)) c.if-zeros-ne0.true

pub returns-then-zeros-ne0-clause-place : goal.returns-then-zeros-ne0-clause-place
returns-then-zeros-ne0-clause-place c = found c

pub returns-then-zeros-ne0-clause-none : goal.returns-then-zeros-ne0-clause-none
returns-then-zeros-ne0-clause-none c = none_is_zero c.args.slots.now _ (found c)

pub returns-clause-none : goal.returns-clause-none
returns-clause-none c = none_is_zero c.args.slots.now c.first_zero_from.result c.first_zero_from.ensures

pub loop-at-preserved : goal.loop-at-preserved
loop-at-preserved c = record {
  within = c.loop-at-test.true;
  before = none_in_chunk c.args.slots.now c.loop-at.at c.loop-at-test.true c.loop-at.invariant.before _
      (bitmask_splat w32 eqb (chunk c.loop-at.at 16 c.args.slots.now) 16 0 (length-chunk c.loop-at.at 16 c.args.slots.now c.loop-at-test.true) (omega arith)) c.if-zeros-ne0.false;
}
