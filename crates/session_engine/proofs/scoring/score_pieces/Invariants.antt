use Rattle.std.proofs.Common.{ℕ, ◌≡◌, ◌+◌}
use Rattle.index_file.specs.Places.{segment_at}
use Rattle.session_engine.proofs.Pieces.{IsPart}
use Rattle.session_engine.proofs.Marking.{IsMarked}
use Rattle.session_engine.proofs.scoring.score_pieces.Given as goal

abbrev pub invariant-pieces : goal.invariant-pieces
invariant-pieces g l = IsPart (g.S.Source.left l.source l.cursor) l.segment.weight (segment_at (g.S.Source.index l.source).terms l.segment.term l.segment.segment).docs l.fn.scores l.fn.pool l.scores l.pool l.fn.steps l.steps
    × (l.steps + l.left ≡ l.fn.steps + l.segment.count)
    × IsMarked (g.S.Source.left l.source l.cursor) (g.M.Marks.has_mask l.marks) l.segment.term_place (segment_at (g.S.Source.index l.source).terms l.segment.term l.segment.segment).docs (g.M.Marks.masks l.fn.marks) (g.M.Marks.masks l.marks) l.fn.steps l.steps
    × ((place : ℕ) → g.M.Marks.has_place l.fn.marks place → g.M.Marks.has_place l.marks place)
    × ((doc : ℕ) → g.M.Marks.has_mask l.fn.marks doc → g.M.Marks.has_mask l.marks doc)

abbrev pub decreases-pieces : goal.decreases-pieces
decreases-pieces g l = l.left
