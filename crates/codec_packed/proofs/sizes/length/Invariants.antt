use Rattle.std.proofs.Common.{◌≡◌, ◌+◌, ◌-◌, ◌*◌, ◌^◌, length, drop}
use Rattle.jass_base.specs.Gaps.{gaps_from}
use Rattle.codec_packed.specs.Giving.{AreFrom}
use Rattle.codec_packed.specs.Packing.{packed_gaps, packed_of}
use Rattle.codec_packed.proofs.sizes.length.Given as goal

abbrev pub invariant-loop-block : goal.invariant-loop-block
invariant-loop-block l = AreFrom (2 ^ 26) l.least (drop (128 * l.block) l.docs)
    × (l.size + length (packed_gaps (l.blocks - l.block) (gaps_from l.least (drop (128 * l.block) l.docs))) ≡ length (packed_of l.docs))
