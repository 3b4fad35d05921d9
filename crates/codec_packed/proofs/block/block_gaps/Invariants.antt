use Rattle.std.proofs.Common.{◌≡◌, ◌^◌, ◌++◌, length, take, drop}
use Rattle.jass_base.specs.Gaps.{gaps_from}
use Rattle.codec_packed.specs.Giving.{AreFrom}
use Rattle.codec_packed.proofs.block.block_gaps.Given as goal

abbrev pub invariant-loop-i : goal.invariant-loop-i
invariant-loop-i l = (length l.gaps ≡ 128) × AreFrom (2 ^ 26) l.next (drop l.i l.docs) × (take l.i l.gaps ++ gaps_from l.next (drop l.i l.docs) ≡ gaps_from l.fn.least l.docs)
