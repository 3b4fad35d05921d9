use Rattle.std.proofs.Common.{◌≡◌, ◌≤◌, ◌<◌, ◌-◌, ◌^◌, length}
use Rattle.jass_base.specs.Outside.{ForContent, OnContent}
use Rattle.whole_files.specs.Private.Fronts.{IsFrontOf}
use Rattle.whole_files.proofs.front.read_front.Given as goal

abbrev pub invariant-pieces : goal.invariant-pieces
invariant-pieces g l = record {
  same : g.C.Cabinet.told l.files ≡ g.C.Cabinet.told l.fn.files;
  later : g.C.Cabinet.read_faults l.fn.files ≤ g.C.Cabinet.read_faults l.files;
  others : g.C.Cabinet.write_faults l.fn.files ≤ g.C.Cabinet.write_faults l.files;
  front : ForContent (g.C.Cabinet.told l.fn.files) l.name (IsFrontOf l.row);
  there : 0 < length l.row → OnContent (g.C.Cabinet.told l.fn.files) l.name (λ content. Unit {0});
}

abbrev pub decreases-pieces : goal.decreases-pieces
decreases-pieces g l = 2 ^ 64 - length l.row
