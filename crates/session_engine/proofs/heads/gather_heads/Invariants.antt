use Rattle.std.proofs.Common.{◌≡◌, ◌++◌, drop}
use Rattle.index_model.specs.Querying.{segments_at}
use Rattle.session_engine.specs.Plans.{heads_at}
use Rattle.session_engine.proofs.heads.gather_heads.Given as goal

abbrev pub invariant-loop-segment : goal.invariant-loop-segment
invariant-loop-segment g l = l.heads.items ++ heads_at l.term_place l.segment (drop l.segment (segments_at (g.S.Source.index l.source).terms l.named.term))
    ≡ l.fn.heads.items ++ heads_at l.term_place 0 (segments_at (g.S.Source.index l.source).terms l.named.term)
