use Rattle.std.proofs.Common.{◌≡◌, ◌-◌, ◌++◌}
use Rattle.index_version1.proofs.Below.{NamesRead, judged}
use Rattle.index_version1.specs.Reading.{text_checks, names_from}
use Rattle.index_version1.proofs.names.read_texts.Given as goal

abbrev pub invariant-names : goal.invariant-names
invariant-names l = record {
  read : (x : NamesRead) → judged (text_checks l.bytes l.place l.docs 0) x ≡ judged (text_checks l.bytes l.place (l.docs - l.i) l.i) x;
  names : l.names ++ names_from l.bytes l.place (l.docs - l.i) l.i ≡ names_from l.bytes l.place l.docs 0;
}
