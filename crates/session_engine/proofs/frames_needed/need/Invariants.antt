use Rattle.std.proofs.Common.{◌≡◌, ◌≤◌, ◌+◌, min, drop}
use Rattle.session_engine.specs.Plans.{postings_of_terms}
use Rattle.session_engine.proofs.frames_needed.need.Given as goal

abbrev pub invariant-loop-named : goal.invariant-loop-named
invariant-loop-named g l = (l.count ≤ l.pages)
    × (min l.pages (l.count + postings_of_terms (g.S.Source.index l.source).terms (drop l.named-index l.named-items)) ≡ min l.pages (postings_of_terms (g.S.Source.index l.source).terms l.named-items))
