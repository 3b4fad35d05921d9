use Rattle.std.proofs.Common.{sym, inl}
use Rattle.trec_run.proofs.Reading.{no_text, other_columns, other_mark, run_columns, refused_line, run_as}
use Rattle.trec_run.proofs.run.read_line.Goals as goal

pub returns-in_default : goal.returns-in_default
returns-in_default c = inl (refused_line c.args.number c.args.line.now c.refused.result c.refused.ensures (no_text c.args.line.now c.in_default.ensures))

pub returns-in_default-six_columns : goal.returns-in_default-six_columns
returns-in_default-six_columns c = inl (refused_line c.args.number c.args.line.now c.refused-in_default-six_columns.result c.refused-in_default-six_columns.ensures
    (other_columns c.args.line.now c.in-Some.text.now c.in-Some.ensures.0 c.in-Some.ensures.1 c.in_default-six_columns.ensures))

pub returns-then-is_mark : goal.returns-then-is_mark
returns-then-is_mark c = run_as c.args.number c.args.line.now c.run_line.result _ c.run_line.ensures
    (run_columns c.args.line.now c.in-Some.text.now _ _ _ _ _ _ c.in-Some.ensures.0 c.in-Some.ensures.1 c.in-Some-six_columns.ensures (sym c.if-is_mark.ensures))

pub returns-else-is_mark : goal.returns-else-is_mark
returns-else-is_mark c = inl (refused_line c.args.number c.args.line.now c.refused-else-is_mark.result c.refused-else-is_mark.ensures
    (other_mark c.args.line.now c.in-Some.text.now _ _ _ _ _ _ c.in-Some.ensures.0 c.in-Some.ensures.1 c.in-Some-six_columns.ensures (sym c.if-is_mark.ensures)))
