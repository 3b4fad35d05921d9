use Rattle.std.proofs.Common.{◌==◌, sym, eq-eqb, arith}
use Rattle.shared_lemmas.proofs.Places.{position_at, position_past}
use Rattle.lane_kernels.proofs.zeros.first_zero_from.Goals as goal

pub returns-then-slots-at-eq0 : goal.returns-then-slots-at-eq0
returns-then-slots-at-eq0 c =
    sym (position_at (λ slot. slot == 0) c.args.slots.now c.loop-at.at 0 (omega arith) c.loop-at.invariant (eq-eqb _ 0 c.if-slots-at-eq0.true))

pub returns : goal.returns
returns c = sym (position_past (λ slot. slot == 0) c.args.slots.now 0 (λ k h. c.loop-at.invariant k (omega arith)))
