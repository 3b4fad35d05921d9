use Rattle.std.proofs.Common.{◌≡◌, ◌≤◌, ◌++◌}
use Rattle.ciff_read.specs.Walk.{LeavesWalk}
use Rattle.index_import.specs.Private.Surveying.{IsReady}
use Rattle.index_import.proofs.Spelled.{Spells}
use Rattle.index_import.proofs.spelling.spell_lists.Given as goal

abbrev pub invariant-lists : goal.invariant-lists
invariant-lists g l = record {
  same : g.C.Cabinet.told l.files ≡ g.C.Cabinet.told l.fn.files;
  later : g.C.Cabinet.read_faults l.fn.files ≤ g.C.Cabinet.read_faults l.files;
  others : g.C.Cabinet.write_faults l.fn.files ≤ g.C.Cabinet.write_faults l.files;
  ready : IsReady (g.C.Cabinet.told l.fn.files) l.fn.walk.name l.walk;
  leaves : LeavesWalk l.fn.walk l.walk;
  spelled : Spells (g.C.Cabinet.told l.fn.files) l.fn.walk.name l.fn.walk.docs l.weighing l.bits l.range l.yielded l.speller.terms (l.speller.payloads ++ l.speller.block);
}
