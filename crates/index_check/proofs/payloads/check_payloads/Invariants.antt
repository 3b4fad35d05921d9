use Rattle.std.proofs.Common.{ℕ, List, Result, Ok, None, All, length, ◌≡◌, ◌≤◌}
use Rattle.index_layout.specs.Reading.{TermsRead, read_terms}
use Rattle.index_layout.specs.declared.refusal.OpenFault.{OpenFault}
use Rattle.index_file.specs.Contents.{IsContent, Reads}
use Rattle.index_check.specs.Private.Pieces.{Holds}
use Rattle.index_check.proofs.PayloadEnds.{PayloadsTill}
use Rattle.index_check.proofs.payloads.check_payloads.Given as goal

abbrev pub invariant-terms : goal.invariant-terms
invariant-terms g l = record {
  reads : (let result : Result ℕ OpenFault = Ok l.at in Reads
      (record { told = g.C.Cabinet.told l.fn.files; read_faults = g.C.Cabinet.read_faults l.fn.files; write_faults = g.C.Cabinet.write_faults l.fn.files })
      (record { told = g.C.Cabinet.told l.files; read_faults = g.C.Cabinet.read_faults l.files; write_faults = g.C.Cabinet.write_faults l.files })
      l.name result);
  held : (content : List ℕ) → IsContent (g.C.Cabinet.told l.fn.files) l.name content → Holds content l.fn.held → Holds content l.held;
  size : l.held.size ≡ l.fn.held.size;
  ahead : (content : List ℕ) → IsContent (g.C.Cabinet.told l.fn.files) l.name content → Holds content l.fn.held → Holds content l.ahead;
  ahead_size : l.ahead.size ≡ l.fn.held.size;
  till : (content : List ℕ) (x : TermsRead) → IsContent (g.C.Cabinet.told l.fn.files) l.name content → Holds content l.fn.held → read_terms content l.docs l.count None l.from ≡ Ok x
      → PayloadsTill content l.docs l.count x.terms l.payloads l.counter l.term l.at;
  marks : All (λ mark. mark ≤ l.now) l.marks;
  marked : l.docs ≤ length l.marks;
  term : l.term ≤ l.fn.held.size;
  at : l.at ≤ l.fn.held.size;
}
