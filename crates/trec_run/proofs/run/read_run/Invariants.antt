use Rattle.std.proofs.Common.{◌≡◌}
use Rattle.trec_run.specs.Runs.{read_lines, run_of}
use Rattle.trec_run.proofs.Reading.{behind}
use Rattle.trec_run.proofs.run.read_run.Given as goal

abbrev pub invariant-loop-line : goal.invariant-loop-line
invariant-loop-line l =
    (goal.iterator-loop-line).can_next l.line-iterator × (goal.iterator-loop-line).is_finite l.line-iterator
    × (run_of l.bytes ≡ behind l.run (read_lines l.line-iterator))
