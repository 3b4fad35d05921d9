use Rattle.std.proofs.Common.{ℕ, ◌≡◌, ◌≤◌, ◌-◌, List, Result, Ok}
use Rattle.index_layout.specs.Reading.{read_names}
use Rattle.index_layout.specs.declared.refusal.OpenFault.{OpenFault}
use Rattle.index_file.specs.Contents.{IsContent, Reads}
use Rattle.index_check.specs.Private.Pieces.{Holds}
use Rattle.index_check.proofs.NameLists.{ReadSoFar}
use Rattle.index_check.proofs.names.check_names.Given as goal

abbrev pub invariant-names : goal.invariant-names
invariant-names g l = record {
  read : (content : List ℕ) → IsContent (g.C.Cabinet.told l.fn.files) l.name content → Holds content l.fn.held
      → ReadSoFar content (read_names content l.docs 40) (l.docs - l.counter) l.at;
  at : l.at ≤ l.held.size;
  held : (content : List ℕ) → IsContent (g.C.Cabinet.told l.fn.files) l.name content → Holds content l.fn.held → Holds content l.held;
  size : l.held.size ≡ l.fn.held.size;
  reads : (let result : Result ℕ OpenFault = Ok l.at in Reads
      (record { told = g.C.Cabinet.told l.fn.files; read_faults = g.C.Cabinet.read_faults l.fn.files; write_faults = g.C.Cabinet.write_faults l.fn.files })
      (record { told = g.C.Cabinet.told l.files; read_faults = g.C.Cabinet.read_faults l.files; write_faults = g.C.Cabinet.write_faults l.files })
      l.name result);
}
