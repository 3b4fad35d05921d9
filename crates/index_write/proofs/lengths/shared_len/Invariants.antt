use Rattle.std.proofs.Common.{◌≡◌, ◌+◌, ◌-◌, ◌≤◌, drop}
use Rattle.index_layout.specs.Layout.{shared_with}
use Rattle.index_write.proofs.lengths.shared_len.Given as goal

abbrev pub invariant-bytes : goal.invariant-bytes
invariant-bytes l = record {
  counted : l.shared + shared_with (drop l.shared l.before) (drop l.shared l.term) ≡ shared_with l.before l.term;
  within : l.shared ≤ l.most;
}

abbrev pub decreases-bytes : goal.decreases-bytes
decreases-bytes l = l.most - l.shared
