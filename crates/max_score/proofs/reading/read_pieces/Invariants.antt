use Rattle.std.proofs.Common.{◌≡◌, ◌+◌}
use Rattle.index_file.specs.Places.{segment_at}
use Rattle.max_score.proofs.Pieces.{IsPart}
use Rattle.max_score.proofs.reading.read_pieces.Given as goal

abbrev pub invariant-pieces : goal.invariant-pieces
invariant-pieces g l = IsPart (g.S.Source.left l.source l.cursor) l.segment.impact (segment_at (g.S.Source.index l.source).terms l.segment.term l.segment.segment).docs l.fn.impacts l.impacts l.fn.steps l.steps
    × (l.steps + l.left ≡ l.fn.steps + l.segment.count)

abbrev pub decreases-pieces : goal.decreases-pieces
decreases-pieces g l = l.left
