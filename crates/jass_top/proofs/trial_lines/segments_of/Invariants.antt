use Rattle.std.proofs.Common.{◌≡◌, ◌≤◌, ◌*◌, take, length}
use Rattle.std.specs.List.{sum_by}
use Rattle.index_model.specs.Index.{TermData}
use Rattle.jass_top.proofs.trial_lines.segments_of.Given as goal

abbrev pub invariant-loop-term : goal.invariant-loop-term
invariant-loop-term l = record {
  counted : l.segments ≡ sum_by (λ (t : TermData). length t.segments) (take l.term l.index.index.terms);
  small : l.segments ≤ l.term * 4294967296;
}
