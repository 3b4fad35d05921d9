use Rattle.std.proofs.Common.{length, take, ◌-◌, ◌≡◌, ◌≤◌, ◌++◌, drop}
use Rattle.jass_base.specs.Gaps.{gaps_of}
use Rattle.codec_simple8.specs.Simple8.{simple8_of, spelled_words}
use Rattle.codec_simple8.proofs.encoding.encode.Given as goal

abbrev pub invariant-loop-at : goal.invariant-loop-at
invariant-loop-at l = record {
  within : l.at ≤ length l.docs;
  front : take l.start l.out ≡ l.fn.out;
  all : l.out ++ spelled_words (drop l.at (gaps_of l.docs)) ≡ l.fn.out ++ simple8_of l.docs;
}

abbrev pub decreases-loop-at : goal.decreases-loop-at
decreases-loop-at l = length l.docs - l.at
