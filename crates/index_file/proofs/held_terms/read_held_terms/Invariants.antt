use Rattle.std.proofs.Common.{ℕ, List, ◌≤◌, ◌+◌, length, Result, Ok}
use Rattle.whole_files.specs.Windows.{Shows}
use Rattle.index_layout.specs.declared.refusal.OpenFault.{OpenFault}
use Rattle.index_file.specs.Contents.{IsContent, Reads}
use Rattle.index_file.specs.Private.Gathered.{AreTerms, IsReader}
use Rattle.index_file.proofs.Gathering.{Gathers}
use Rattle.index_file.proofs.held_terms.read_held_terms.Given as goal

abbrev pub invariant-terms : goal.invariant-terms
invariant-terms g l = record {
  at : l.at ≤ length l.part.bytes.items;
  place : l.part.start + l.at ≤ l.size;
  reader : IsReader l.docs l.reader;
  gathered : (terms : List ℕ) × AreTerms (g.C.Cabinet.told l.fn.files) l.name l.fn.part.start (l.part.start + l.at) terms
      × Gathers terms l.docs l.counter l.reader;
  shown : (content : List ℕ) → IsContent (g.C.Cabinet.told l.fn.files) l.name content → Shows content l.part;
  reads : (let result : Result ℕ OpenFault = Ok l.at in Reads
      (record { told = g.C.Cabinet.told l.fn.files; read_faults = g.C.Cabinet.read_faults l.fn.files; write_faults = g.C.Cabinet.write_faults l.fn.files })
      (record { told = g.C.Cabinet.told l.files; read_faults = g.C.Cabinet.read_faults l.files; write_faults = g.C.Cabinet.write_faults l.files })
      l.name result);
}
