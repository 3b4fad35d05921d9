use Rattle.std.proofs.Common.{◌+◌, ◌-◌, ◌++◌, ◌≡◌, length, take}
use Rattle.jass_base.specs.Gaps.{docs_from}
use Rattle.codec_simple8.specs.Simple8.{fields, least_behind}
use Rattle.codec_simple8.proofs.Putting.{Putting}
use Rattle.codec_simple8.proofs.values.put_values.Given as goal

abbrev pub invariant-loop-i : goal.invariant-loop-i
invariant-loop-i l = record {
  put : Putting l.width (l.count - l.i) l.rest l.next (take (l.filled + l.i) l.out)
      (take l.filled l.fn.out ++ docs_from l.least (fields l.width l.count l.values)) (least_behind l.least (fields l.width l.count l.values));
  long : length l.out ≡ length l.fn.out;
}
