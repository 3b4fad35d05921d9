use Rattle.std.proofs.Common.{◌≡◌, ◌≤◌, length, take, All}
use Rattle.ciff_read.specs.Walk.{LeavesWalk}
use Rattle.index_import.specs.Private.Ranging.{CannotWiden}
use Rattle.index_import.specs.Private.Surveying.{IsReady}
use Rattle.index_import.proofs.Widening.{Widens}
use Rattle.index_import.proofs.ranging.widen_lists.Given as goal

abbrev pub invariant-loop-entry : goal.invariant-loop-entry
invariant-loop-entry g l = record {
  ready : IsReady (g.C.Cabinet.told l.fn.files) l.fn.walk.name l.walk;
  leaves : LeavesWalk l.fn.walk l.walk;
  range : Widens (g.C.Cabinet.told l.fn.files) l.fn.walk.name l.fn.walk.docs l.weighing (take l.entry-index l.lists) l.range;
  passed : All (CannotWiden l.weighing.rule (length l.weighing.norms.now) l.ends l.range) l.passed;
  stays : g.C.Cabinet.told l.files ≡ g.C.Cabinet.told l.fn.files;
  later : g.C.Cabinet.read_faults l.fn.files ≤ g.C.Cabinet.read_faults l.files;
  others : g.C.Cabinet.write_faults l.fn.files ≤ g.C.Cabinet.write_faults l.files;
}
