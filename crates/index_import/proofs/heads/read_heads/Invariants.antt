use Rattle.std.proofs.Common.{◌≡◌, ◌≤◌, map}
use Rattle.index_write.specs.Streaming.{entry_data}
use Rattle.ciff_read.specs.Walk.{LeavesWalk}
use Rattle.index_import.specs.Private.Heading.{AreHeads, places_of}
use Rattle.index_import.specs.Private.Surveying.{IsReady}
use Rattle.index_import.proofs.Headed.{HaveEntries}
use Rattle.index_import.proofs.heads.read_heads.Given as goal

abbrev pub invariant-lists : goal.invariant-lists
invariant-lists g l = record {
  same : g.C.Cabinet.told l.files ≡ g.C.Cabinet.told l.fn.files;
  later : g.C.Cabinet.read_faults l.fn.files ≤ g.C.Cabinet.read_faults l.files;
  others : g.C.Cabinet.write_faults l.fn.files ≤ g.C.Cabinet.write_faults l.files;
  ready : IsReady (g.C.Cabinet.told l.fn.files) l.fn.walk.name l.walk;
  leaves : LeavesWalk l.fn.walk l.walk;
  heads : AreHeads (g.C.Cabinet.told l.fn.files) l.fn.walk.name l.fn.walk.docs l.weighing l.bits l.range l.yielded l.reader.heads.terms;
  entries : HaveEntries l.yielded (map entry_data l.reader.heads.terms);
  places : l.reader.heads.places.items ≡ places_of l.yielded;
}
