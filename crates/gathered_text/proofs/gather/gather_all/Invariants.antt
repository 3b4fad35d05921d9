use Rattle.std.proofs.Common.{drop, flat_map}
use Rattle.gathered_text.proofs.Compose.{GathersUpTo}
use Rattle.gathered_text.proofs.gather.gather_all.Given as goal

abbrev pub invariant-loop-piece : goal.invariant-loop-piece
invariant-loop-piece g l =
    GathersUpTo g.S.Sink.written g.S.Sink.faults g.S.Sink.rest l.fn.out l.out l.fn.buffer l.buffer (flat_map (λ piece. piece.now) l.pieces) (flat_map (λ piece. piece.now) (drop l.piece-index l.pieces))
