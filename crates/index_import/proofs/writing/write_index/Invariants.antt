use Rattle.std.proofs.Common.{◌≡◌, ◌≤◌, ◌-◌, ◌^◌, ◌++◌, List, length, map, take}
use Rattle.index_import.proofs.Below.{Sets, LeavesWalk, TermData, file_length, front_bytes, table_payloads, entry_data, writer_view}
use Rattle.index_import.specs.Private.Writing.{HasTerms}
use Rattle.index_import.specs.Private.Surveying.{IsReady}
use Rattle.index_import.proofs.writing.write_index.Given as goal

abbrev pub invariant-places : goal.invariant-places
invariant-places g l = record {
  later : g.C.Cabinet.read_faults l.fn.files ≤ g.C.Cabinet.read_faults l.files;
  others : g.C.Cabinet.write_faults l.fn.files ≤ g.C.Cabinet.write_faults l.files;
  ready : IsReady (g.C.Cabinet.told l.files) l.fn.walk.name l.walk;
  leaves : LeavesWalk l.fn.walk l.walk;
  writer : l.writer ≡ writer_view l.index l.fn.walk.docs l.fn.heads.terms (length l.fn.heads.terms - length l.yielded);
  fits : file_length l.fn.names (map entry_data l.fn.heads.terms) ≤ 2 ^ 32;
  written : (made : List TermData) → HasTerms (g.C.Cabinet.told l.fn.files) l.fn.walk.name l.fn.walk.docs l.weighing l.bits l.range l.fn.heads.places.items l.fn.heads.terms made
      → Sets (g.C.Cabinet.told l.fn.files) (g.C.Cabinet.told l.files) l.index (front_bytes l.fn.names (map entry_data l.fn.heads.terms) ++ table_payloads l.fn.walk.docs (take (length l.yielded) made));
}
