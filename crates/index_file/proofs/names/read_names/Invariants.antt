use Rattle.std.proofs.Common.{◌≡◌, ◌-◌, ◌≤◌, length, map, All}
use Rattle.index_layout.specs.Reading.{read_names, name_in}
use Rattle.index_file.specs.Private.Outlines.{EndsBefore}
use Rattle.index_file.proofs.Sequences.{with_names}
use Rattle.index_file.proofs.names.read_names.Given as goal

abbrev pub invariant-names : goal.invariant-names
invariant-names l = record {
  read : read_names l.bytes l.docs 40 ≡ with_names (map (name_in l.bytes) l.places) (read_names l.bytes (l.docs - l.counter) l.at);
  start : 40 ≤ l.at;
  at : l.at ≤ length l.bytes;
  count : length l.places ≡ l.counter;
  before : All (EndsBefore l.bytes l.at) l.places;
}
