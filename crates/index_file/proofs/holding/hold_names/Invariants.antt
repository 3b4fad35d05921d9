use Rattle.std.proofs.Common.{ℕ, List, ◌≡◌, ◌≤◌, ◌^◌, Result, Ok}
use Rattle.whole_files.specs.Windows.{Shows}
use Rattle.index_layout.specs.declared.refusal.OpenFault.{OpenFault}
use Rattle.index_file.specs.Contents.{IsContent, Reads}
use Rattle.index_file.proofs.holding.hold_names.Given as goal

abbrev pub invariant-names : goal.invariant-names
invariant-names g l = record {
  start : l.part.start ≡ 0;
  shown : (content : List ℕ) → IsContent (g.C.Cabinet.told l.fn.files) l.name content → Shows content l.fn.part → Shows content l.part;
  long : 40 ≤ l.at;
  at : l.at ≤ 2 ^ 34;
  reads : (let result : Result ℕ OpenFault = Ok l.at in Reads
      (record { told = g.C.Cabinet.told l.fn.files; read_faults = g.C.Cabinet.read_faults l.fn.files; write_faults = g.C.Cabinet.write_faults l.fn.files })
      (record { told = g.C.Cabinet.told l.files; read_faults = g.C.Cabinet.read_faults l.files; write_faults = g.C.Cabinet.write_faults l.files })
      l.name result);
}
