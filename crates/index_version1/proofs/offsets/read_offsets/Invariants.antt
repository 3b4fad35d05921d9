use Rattle.std.proofs.Common.{ℕ, ◌≡◌, ◌<◌, ◌+◌, ◌-◌}
use Rattle.index_layout.specs.Refusals.{judged}
use Rattle.index_version1.specs.Reading.{offset_in, offset_checks}
use Rattle.index_version1.proofs.offsets.read_offsets.Given as goal

abbrev pub invariant-offsets : goal.invariant-offsets
invariant-offsets l = record {
  read : judged (offset_checks l.bytes l.docs 0) l.place ≡ judged (offset_checks l.bytes (l.docs - l.i) l.i) l.place;
  before : l.before ≡ offset_in l.bytes l.i;
  rising : (j : ℕ) → j < l.i → offset_in l.bytes j < offset_in l.bytes (j + 1);
}
