use Rattle.text_lines.specs.Lines.{lines_of}
use Rattle.trec_run.proofs.Accepting.{lines_read, lines_only}
use Rattle.trec_run.proofs.laws.runs_are_read.Goals as goal

pub returns-clause-run : goal.returns-clause-run
returns-clause-run c = λ text runs. lines_read 1 (lines_of text) runs

pub returns-clause-only : goal.returns-clause-only
returns-clause-only c = λ text runs. lines_only 1 (lines_of text) runs
