use Rattle.std.proofs.Common.{ℕ}
use Rattle.sharp_bounds.specs.Marks.{AreMarkedTo}
use Rattle.session_engine.specs.Plans.{need_of, session_plan}
use Rattle.session_engine.proofs.Scored.{Progress}
use Rattle.session_engine.proofs.entries.score_entries.Given as goal

abbrev pub invariant-loop-i : goal.invariant-loop-i
invariant-loop-i g l = (Progress l.from l.i (need_of (g.S.Source.index l.source) l.terms) (session_plan (g.S.Source.index l.source) l.terms) l.fn.scores l.fn.pool l.scores l.pool l.fn.steps l.steps l.postings)
    × (AreMarkedTo l.from (session_plan (g.S.Source.index l.source) l.terms) (g.M.Marks.masks l.fn.marks) → AreMarkedTo l.i (session_plan (g.S.Source.index l.source) l.terms) (g.M.Marks.masks l.marks))
    × ((place : ℕ) → g.M.Marks.has_place l.fn.marks place → g.M.Marks.has_place l.marks place)
    × ((doc : ℕ) → g.M.Marks.has_mask l.fn.marks doc → g.M.Marks.has_mask l.marks doc)
