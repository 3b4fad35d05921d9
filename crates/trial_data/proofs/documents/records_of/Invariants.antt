use Rattle.std.proofs.Common.{◌≡◌, ◌++◌, length, drop, map}
use Rattle.jass_base.specs.CiffViews.{doc_data}
use Rattle.trial_data.specs.Private.Gathering.{records_from}
use Rattle.trial_data.proofs.documents.records_of.Given as goal

abbrev pub invariant-loop-length : goal.invariant-loop-length
invariant-loop-length l = record {
  count : length l.docs ≡ l.length-index;
  made : map doc_data l.docs ++ records_from l.length-index (drop l.length-index l.lengths) ≡ records_from 0 l.lengths;
}
