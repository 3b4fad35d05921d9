use Rattle.std.proofs.Common.{◌≡◌, ◌≤◌, drop, length}
use Rattle.text_lines.specs.Lines.{lines_of, numbered_from}
use Rattle.jass_top.specs.Private.SearchRuns.{asked_of}
use Rattle.jass_top.proofs.ManyTerms.{first_many}
use Rattle.jass_top.proofs.queries_input.line_of_many.Given as goal

abbrev pub invariant-loop-line : goal.invariant-loop-line
invariant-loop-line l = record {
  left : first_many l.line-iterator (drop l.place (asked_of l.queries)) ≡ first_many (numbered_from 1 (lines_of l.bytes)) (asked_of l.queries);
  within : l.place ≤ length l.queries;
}
