use Rattle.std.proofs.Common.{◌≡◌, ◌≤◌, ◌-◌, ◌^◌, ◌⊎◌, length}
use Rattle.jass_base.specs.Outside.{IsMissing}
use Rattle.whole_files.specs.Windows.{AreFrom, StaysShown}
use Rattle.whole_files.proofs.window.Window.fill.Given as goal

abbrev pub invariant-pieces : goal.invariant-pieces
invariant-pieces g l = record {
  same : g.C.Cabinet.told l.files ≡ g.C.Cabinet.told l.fn.files;
  later : g.C.Cabinet.read_faults l.fn.files ≤ g.C.Cabinet.read_faults l.files;
  others : g.C.Cabinet.write_faults l.fn.files ≤ g.C.Cabinet.write_faults l.files;
  start : l.self.start ≡ l.fn.self.start;
  there : (length l.self.bytes.items ≡ length l.fn.self.bytes.items) ⊎ ¬ IsMissing (g.C.Cabinet.told l.fn.files) l.name;
  kept : AreFrom l.self.bytes.items 0 l.fn.self.bytes.items;
  shown : StaysShown (g.C.Cabinet.told l.fn.files) l.name l.fn.self l.self;
}

abbrev pub decreases-pieces : goal.decreases-pieces
decreases-pieces g l = 2 ^ 64 - length l.self.bytes.items
