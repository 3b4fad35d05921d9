use Rattle.std.proofs.Common.{◌≡◌, ◌≤◌, List, ℕ, All}
use Rattle.index_import.proofs.Below.{ForContent, IsMissing, StandsTold}
use Rattle.index_import.specs.Private.Surveying.{HoldsMost, KeepsAll}
use Rattle.index_import.proofs.Surveying.{Follows, Holds, pieces_left}
use Rattle.index_import.proofs.survey.Survey.read_pieces.Given as goal

abbrev pub invariant-pieces : goal.invariant-pieces
invariant-pieces g l = record {
  same : g.C.Cabinet.told l.files ≡ g.C.Cabinet.told l.fn.files;
  later : g.C.Cabinet.read_faults l.fn.files ≤ g.C.Cabinet.read_faults l.files;
  others : g.C.Cabinet.write_faults l.fn.files ≤ g.C.Cabinet.write_faults l.files;
  there : ¬ IsMissing (g.C.Cabinet.told l.fn.files) l.fn.self.walk.name;
  stands : StandsTold (g.C.Cabinet.told l.fn.files) l.self.walk;
  holds : Holds l.fn.self.walk.name l.self.walk l.self.docs l.self.lists.items;
  keeps : All (KeepsAll l.self.walk.docs) l.self.lists.items;
  follows : ForContent (g.C.Cabinet.told l.fn.files) l.fn.self.walk.name (λ (content : List ℕ). Follows content l.self.walk l.self.docs);
  most : ForContent (g.C.Cabinet.told l.fn.files) l.fn.self.walk.name (λ (content : List ℕ). All (HoldsMost content l.self.walk.docs) l.self.lists.items);
}

abbrev pub decreases-pieces : goal.decreases-pieces
decreases-pieces g l = pieces_left l.self.walk
