use Rattle.shared_lemmas.proofs.Common.{◌≡◌, ◌+◌, ◌-◌, ◌≤◌}
use Rattle.frame_pool.specs.ChainView.{LeavesPool}
use Rattle.ranking_model.specs.Plan.{size_of_first}
use Rattle.session_engine.specs.Plans.{session_plan}
use Rattle.session_scores.specs.Scores.{AreScoresOf, own_chain}
use Rattle.sharp_search.specs.Fronts.{FrontStands}
use Rattle.sharp_search.proofs.Advancing.{Advanced}
use Rattle.sharp_search.proofs.front.advance_to.Given as goal

abbrev pub invariant-segments : goal.invariant-segments
invariant-segments g l = Advanced (g.S.Source.index l.source) l.terms l.k l.to l.fn.front l.fn.pool l.front l.pool l.fn.steps l.steps l.postings

abbrev pub decreases-segments : goal.decreases-segments
decreases-segments g l = l.to - l.front.scored
