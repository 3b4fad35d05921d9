use Rattle.shared_lemmas.proofs.Common.{◌≡◌, ◌≤◌, ◌+◌, min, drop, sum_by}
use Rattle.index_model.specs.Querying.{segments_at}
use Rattle.session_engine.specs.Plans.{postings_at}
use Rattle.session_engine.proofs.Gathering.{size}
use Rattle.session_engine.proofs.frames_needed.counted.Given as goal

abbrev pub invariant-loop-segment : goal.invariant-loop-segment
invariant-loop-segment g l = (l.sum ≤ l.limit)
    × (min l.limit (l.sum + sum_by size (drop l.segment (segments_at (g.S.Source.index l.source).terms l.term))) ≡ min l.limit (l.count + postings_at (g.S.Source.index l.source).terms l.term))
