-- How far a search has come.
use Rattle.std.specs.Prelude.{ℕ, ◌≡◌, ◌<◌, ◌≤◌, false, List, length}
use Rattle.jass_base.specs.declared.query_term.QueryTerm.{QueryTerm}
use Rattle.index_model.specs.Index.{IndexData}
use Rattle.accumulator_pages.specs.Adding.{page_count}
use Rattle.frame_pool.specs.Pool.{PoolView}
use Rattle.session_scores.specs.Scores as scores
use Rattle.session_engine.specs.Plans.{session_plan, need_of}
use Rattle.session_engine.specs.Standing.{ScoredTo}
use Rattle.sharp_bounds.specs.Marks.{AreMarkedTo, next_weights}
use Rattle.sharp_bounds.specs.Rule.{is_sharp}
use Rattle.sharp_search.specs.declared.front.Front.{Front}

-- the first n segments of the plan of a query are scored and their documents marked, it is known whether the rule settles their
-- answer, and it settles none before
pub record FrontStands (index : IndexData) (terms : List QueryTerm) (k : ℕ) (front : Front) (pool : PoolView) : Type 0 where
  pub scored : ScoredTo front.scored (session_plan index terms) (need_of index terms) front.scores pool
  pub first : scores.IsSettled front.scores pool
  pub asked : scores.k_of front.scores ≡ k
  pub marked : AreMarkedTo front.scored (session_plan index terms) front.masks.masks
  pub frames : page_count (length front.masks.masks) ≤ front.masks.frames
  pub weights : front.weights.items ≡ next_weights front.scored (session_plan index terms)
  pub settled : front.settled ≡ is_sharp front.scored (session_plan index terms) k
  pub before : (m : ℕ) → m < front.scored → is_sharp m (session_plan index terms) k ≡ false
