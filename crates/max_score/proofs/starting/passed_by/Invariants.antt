use Rattle.std.proofs.Common.{◌≡◌, ◌≤◌, take}
use Rattle.index_model.specs.Querying.{segments_at}
use Rattle.max_score.specs.Cursors.{postings_in}
use Rattle.max_score.proofs.starting.passed_by.Given as goal

abbrev pub invariant-loop-segment : goal.invariant-loop-segment
invariant-loop-segment g l = (l.seen ≡ postings_in (take l.segment (segments_at (g.S.Source.index l.source).terms l.list.cursor.term))) × (l.seen ≤ l.k)
