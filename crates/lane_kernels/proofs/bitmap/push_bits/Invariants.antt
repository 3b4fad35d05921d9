use Rattle.std.proofs.Common.{◌≡◌, ◌+◌, ◌<◌, ◌^◌, ◌++◌, length, take}
use Rattle.lane_kernels.specs.Private.Bitmap.{word_bits}
use Rattle.lane_kernels.proofs.bitmap.push_bits.Given as goal

abbrev pub invariant-loop-rest : goal.invariant-loop-rest
invariant-loop-rest l = record {
  long : length l.out ≡ 128;
  front : take l.filled l.out ++ word_bits l.base l.rest ≡ take l.count l.fn.out ++ word_bits l.base l.word;
  left : l.filled + length (word_bits l.base l.rest) ≡ l.count + length (word_bits l.base l.word);
  fits : l.rest < 2 ^ 64;
}

abbrev pub decreases-loop-rest : goal.decreases-loop-rest
decreases-loop-rest l = l.rest
