use Rattle.std.proofs.Common.{◌≡◌, drop}
use Rattle.std.specs.Str.{bytes_eq}
use Rattle.codec_simple8.specs.Simple8.{spelled_words}
use Rattle.codec_simple8.specs.Private.Words.{AreWords, bytes_gaps}
use Rattle.codec_simple8.proofs.spelling.is_spelling.Given as goal

abbrev pub invariant-loop-left : goal.invariant-loop-left
invariant-loop-left l = record {
  words : AreWords (drop l.at l.bytes) l.left;
  same : bytes_eq l.bytes (spelled_words (bytes_gaps l.bytes)) ≡ bytes_eq (drop l.at l.bytes) (spelled_words (bytes_gaps (drop l.at l.bytes)));
}

abbrev pub decreases-loop-left : goal.decreases-loop-left
decreases-loop-left l = l.left
