use Rattle.shared_lemmas.proofs.Common.{◌≡◌, ◌≤◌, ◌^◌, drop, take, length, nat_lt, list_all}
use Rattle.codec_simple8.specs.Private.Words.{AreWords, bytes_gaps}
use Rattle.codec_simple8.proofs.spelling.are_narrow.Given as goal

abbrev pub invariant-loop-left : goal.invariant-loop-left
invariant-loop-left l = record {
  words : AreWords (drop l.at l.bytes) (length (bytes_gaps (drop l.at l.bytes)));
  few : l.left ≤ length (bytes_gaps (drop l.at l.bytes));
  same : list_all (λ gap. nat_lt gap (2 ^ l.width)) (take l.left (bytes_gaps (drop l.at l.bytes))) ≡ list_all (λ gap. nat_lt gap (2 ^ l.width)) (take l.count (bytes_gaps (drop l.fn.at l.bytes)));
}

abbrev pub decreases-loop-left : goal.decreases-loop-left
decreases-loop-left l = l.left
