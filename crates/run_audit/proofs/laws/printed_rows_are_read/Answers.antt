use Rattle.run_audit.specs.Rows.{rows_text}
use Rattle.run_audit.proofs.Printed.{rows_are_lines}
use Rattle.run_audit.proofs.laws.printed_rows_are_read.Goals as goal

pub returns : goal.returns
returns c rows are =
    c.runs_are_read.ensures.run (rows_text rows) rows (rows_are_lines c.lines_end_by_line_feeds.ensures.none c.lines_end_by_line_feeds.ensures.more rows are)
