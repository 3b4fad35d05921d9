use Rattle.shared_lemmas.proofs.Common.{◌≡◌, ◌≤◌, ◌^◌, drop, take, number_l}
use Rattle.jass_base.specs.Gaps.{gaps_of}
use Rattle.codec_simple8.specs.Simple8.{count_of, width_of}
use Rattle.codec_simple8.proofs.encoding.word_from.Given as goal

abbrev pub invariant-loop-i : goal.invariant-loop-i
invariant-loop-i l = (l.i ≤ count_of l.selector.number) × (l.values ≡ number_l (2 ^ width_of l.selector.number) (drop l.i (take (count_of l.selector.number) (drop l.at (gaps_of l.docs)))))

abbrev pub decreases-loop-i : goal.decreases-loop-i
decreases-loop-i l = l.i
