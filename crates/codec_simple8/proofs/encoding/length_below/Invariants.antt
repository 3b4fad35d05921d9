use Rattle.std.proofs.Common.{length, ◌-◌, ◌≡◌, ◌+◌, ◌<◌, ◌≤◌, drop}
use Rattle.jass_base.specs.Gaps.{gaps_of}
use Rattle.codec_simple8.specs.Simple8.{simple8_of, spelled_words}
use Rattle.codec_simple8.proofs.encoding.length_below.Given as goal

abbrev pub invariant-loop-at : goal.invariant-loop-at
invariant-loop-at l = record {
  within : l.at ≤ length l.docs;
  below : 0 < l.at → l.bytes < l.limit;
  all : l.bytes + length (spelled_words (drop l.at (gaps_of l.docs))) ≡ length (simple8_of l.docs);
}

abbrev pub decreases-loop-at : goal.decreases-loop-at
decreases-loop-at l = length l.docs - l.at
