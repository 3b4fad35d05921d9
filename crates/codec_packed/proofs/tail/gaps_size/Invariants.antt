use Rattle.std.proofs.Common.{◌≡◌, ◌+◌, ◌^◌, length, drop}
use Rattle.jass_base.specs.Gaps.{gaps_from, spelled_gaps}
use Rattle.codec_packed.specs.Giving.{AreFrom}
use Rattle.codec_packed.proofs.tail.gaps_size.Given as goal

abbrev pub invariant-loop-doc : goal.invariant-loop-doc
invariant-loop-doc l = AreFrom (2 ^ 26) l.next (drop l.doc-index l.docs)
    × (l.size + length (spelled_gaps (gaps_from l.next (drop l.doc-index l.docs))) ≡ length (spelled_gaps (gaps_from l.fn.least l.docs)))
