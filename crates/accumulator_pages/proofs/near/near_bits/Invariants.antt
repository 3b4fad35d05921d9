use Rattle.accumulator_pages.proofs.NearBits.{NearBelow}
use Rattle.accumulator_pages.proofs.near.near_bits.Given as goal

abbrev pub invariant-loop-at : goal.invariant-loop-at
invariant-loop-at l = NearBelow l.w l.from l.slots l.bits l.near l.at
