-- The runs stay the same as blanks are dropped.
use Rattle.std.proofs.Common.{◌≡◌, ◌≤◌, length}
use Rattle.query_reader.specs.Texts.{blank_runs}
use Rattle.query_reader.proofs.plain.without_blanks.Given as goal

abbrev pub invariant-loop-rest : goal.invariant-loop-rest
invariant-loop-rest l = record { runs : blank_runs l.rest ≡ blank_runs l.text; within : length l.rest ≤ length l.text }

abbrev pub decreases-loop-rest : goal.decreases-loop-rest
decreases-loop-rest l = length l.rest
