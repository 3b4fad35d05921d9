use Rattle.std.proofs.Common.{◌≡◌, ◌≤◌, []}
use Rattle.jass_top.proofs.ServedLines.{ServingPiece}
use Rattle.jass_top.proofs.serve_lines.serve_lines.Given as goal

abbrev pub invariant-pieces : goal.invariant-pieces
invariant-pieces g l = record {
  index : g.S.Source.index l.desk.source ≡ g.S.Source.index l.fn.desk.source;
  empty : l.buffer ≡ [];
  later : g.I.Feed.faults l.fn.input ≤ g.I.Feed.faults l.input;
  serving : ServingPiece g.O.Sink.written g.O.Sink.faults g.O.Sink.rest l.fn.out l.out (g.S.Source.index l.fn.desk.source) l.fn.desk.state.frames (g.I.Feed.left l.fn.input) (g.I.Feed.left l.input) l.fn.steps l.steps l.lines l.desk.state;
}

abbrev pub decreases-pieces : goal.decreases-pieces
decreases-pieces g l = l.lines.left
