use Rattle.std.proofs.Common.{◌≡◌, length, drop}
use Rattle.trial_data.specs.Private.Gathering.{with_postings}
use Rattle.trial_data.proofs.postings.add_lengths.Given as goal

abbrev pub invariant-loop-posting : goal.invariant-loop-posting
invariant-loop-posting l = record {
  rest : with_postings l.lengths (drop l.posting-index l.postings) ≡ with_postings l.fn.lengths l.postings;
  long : length l.lengths ≡ length l.fn.lengths;
}
