use Rattle.index_model.specs.Querying.{segments_at}
use Rattle.max_score.proofs.Stamps.{IsReadTo}
use Rattle.max_score.proofs.reading.read_term.Given as goal

abbrev pub invariant-loop-segment : goal.invariant-loop-segment
invariant-loop-segment g l = IsReadTo (segments_at (g.S.Source.index l.source).terms l.term) l.segment l.fn.impacts l.impacts l.greatest l.fn.steps l.steps
