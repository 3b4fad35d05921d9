use Rattle.std.proofs.Common.{◌+◌, ◌*◌, ◌-◌, ◌++◌, take}
use Rattle.jass_base.specs.Gaps.{docs_from}
use Rattle.codec_simple8.specs.Simple8.{fields}
use Rattle.codec_simple8.proofs.Fours.{Fours}
use Rattle.codec_simple8.proofs.rows.put_rows.Given as goal

abbrev pub invariant-loop-row : goal.invariant-loop-row
invariant-loop-row l = Fours l.width (4 * (l.rows - l.row)) l.pair l.first (take (l.filled + 4 * l.row) l.out)
    (take l.filled l.fn.out ++ docs_from l.least (fields l.width (4 * l.rows) l.values))
