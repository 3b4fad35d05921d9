use Rattle.std.proofs.Common.{ℕ, List, All, ◌≡◌, ◌≤◌, length, Result, Ok}
use Rattle.index_layout.specs.declared.refusal.OpenFault.{OpenFault}
use Rattle.index_file.specs.Contents.{IsContent, Reads}
use Rattle.index_file.specs.Parts.{IsCounted, heads_from}
use Rattle.whole_files.specs.Windows.{AreFrom}
use Rattle.index_check.specs.Private.Pieces.{Holds}
use Rattle.index_check.proofs.SegmentLists.{SegmentsStand}
use Rattle.index_check.proofs.segments.check_segments.Given as goal

abbrev pub invariant-segments : goal.invariant-segments
invariant-segments g l = record {
  stand : (content : List ℕ) (place : ℕ) → IsContent (g.C.Cabinet.told l.fn.files) l.name content → Holds content l.fn.held → AreFrom content place l.heads
      → All (IsCounted l.docs) (heads_from content l.count place) → SegmentsStand content l.docs l.now (heads_from content l.count place) l.from l.i l.at l.marks;
  held : (content : List ℕ) → IsContent (g.C.Cabinet.told l.fn.files) l.name content → Holds content l.fn.held → Holds content l.held;
  size : l.held.size ≡ l.fn.held.size;
  at : l.at ≤ l.held.size;
  count : l.docs ≤ length l.marks;
  most : All (λ mark. mark ≤ l.now) l.marks;
  reads : (let result : Result ℕ OpenFault = Ok l.at in Reads (record { told = g.C.Cabinet.told l.fn.files; read_faults = g.C.Cabinet.read_faults l.fn.files; write_faults = g.C.Cabinet.write_faults l.fn.files })
      (record { told = g.C.Cabinet.told l.files; read_faults = g.C.Cabinet.read_faults l.files; write_faults = g.C.Cabinet.write_faults l.files }) l.name result);
}
