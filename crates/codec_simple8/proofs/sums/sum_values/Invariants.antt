use Rattle.shared_lemmas.proofs.Common.{◌-◌, sum}
use Rattle.codec_simple8.specs.Simple8.{fields}
use Rattle.codec_simple8.proofs.Fields.{Summing}
use Rattle.codec_simple8.proofs.sums.sum_values.Given as goal

abbrev pub invariant-loop : goal.invariant-loop
invariant-loop l = Summing l.width (l.count - l.counter) l.rest l.sum l.values (sum (fields l.width l.count l.values))
