use Rattle.std.proofs.Common.{◌≡◌, ◌-◌, length, fold}
use Rattle.ciff_read.specs.Judging.{gather}
use Rattle.ciff_read.specs.Private.Places.{gathered_of}
use Rattle.ciff_read.specs.Walking.{entry_inside}
use Rattle.ciff_read.proofs.FieldValues.{IsListStart}
use Rattle.ciff_read.proofs.Walks.{Walks}
use Rattle.ciff_read.proofs.postings_list.walk_list.Given as goal

abbrev pub invariant-fields : goal.invariant-fields
invariant-fields l = record {
  walks : Walks entry_inside l.front l.body.from l.at (λ done. IsListStart l.fields done × (gathered_of l.gathered ≡ fold (gather l.fn.gathered.docs l.fn.gathered.before) (gathered_of l.fn.gathered) done.entries));
  docs : l.gathered.docs ≡ l.fn.gathered.docs;
  before : l.gathered.before ≡ l.fn.gathered.before;
}

abbrev pub decreases-fields : goal.decreases-fields
decreases-fields l = length l.front - l.at
