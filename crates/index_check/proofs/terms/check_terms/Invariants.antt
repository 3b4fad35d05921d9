use Rattle.std.proofs.Common.{ℕ, List, Result, Ok, ◌≡◌, ◌≤◌, ◌*◌, ◌^◌}
use Rattle.index_layout.specs.declared.refusal.OpenFault.{OpenFault}
use Rattle.index_file.specs.Contents.{IsContent, Reads}
use Rattle.index_check.specs.Private.Pieces.{Holds}
use Rattle.index_check.proofs.TermEnds.{TermsTill}
use Rattle.index_check.proofs.terms.check_terms.Given as goal

abbrev pub invariant-terms : goal.invariant-terms
invariant-terms g l = record {
  reads : (let result : Result ℕ OpenFault = Ok l.at in Reads
      (record { told = g.C.Cabinet.told l.fn.files; read_faults = g.C.Cabinet.read_faults l.fn.files; write_faults = g.C.Cabinet.write_faults l.fn.files })
      (record { told = g.C.Cabinet.told l.files; read_faults = g.C.Cabinet.read_faults l.files; write_faults = g.C.Cabinet.write_faults l.files })
      l.name result);
  held : (content : List ℕ) → IsContent (g.C.Cabinet.told l.fn.files) l.name content → Holds content l.fn.held → Holds content l.held;
  size : l.held.size ≡ l.fn.held.size;
  till : (content : List ℕ) → IsContent (g.C.Cabinet.told l.fn.files) l.name content → Holds content l.fn.held → TermsTill content l.docs l.count l.from l.i l.term l.sums l.at;
  small : l.sums.postings ≤ 2 ^ 26 * l.at;
  none : l.i ≡ 0 → (l.sums.postings ≡ 0) × (l.sums.greatest ≡ 0);
  at : l.at ≤ l.fn.held.size;
}
