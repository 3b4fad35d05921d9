use Rattle.std.proofs.Common.{◌≡◌, ◌+◌, ◌++◌, take, replicate}
use Rattle.jass_base.specs.Gaps.{docs_from}
use Rattle.codec_simple8.proofs.cursor.Cursor.put_zeros.Given as goal

abbrev pub invariant-loop-i : goal.invariant-loop-i
invariant-loop-i l = take (l.filled + l.i) l.out ≡ take l.filled l.fn.out ++ docs_from l.least (replicate l.i 0)
