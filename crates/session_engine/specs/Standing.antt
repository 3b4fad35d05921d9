-- When a session stands over an index and a pool: it answers at the prefix of its plan that its grants pay for.
use Rattle.std.specs.Prelude.{ℕ, ◌≡◌, ◌≤◌, All, List, length}
use Rattle.jass_base.specs.declared.answer.Hit.{Hit}
use Rattle.jass_base.specs.declared.answer.Report.{Report}
use Rattle.jass_base.specs.declared.query_term.QueryTerm.{QueryTerm}
use Rattle.jass_base.specs.declared.query.Query.{Query}
use Rattle.ranking_model.specs.declared.plan.QueryPlan.{QueryPlan}
use Rattle.ranking_model.specs.Plan.{prefix_within, size_of_first}
use Rattle.ranking_model.specs.Scores.{scores_after, top_k}
use Rattle.index_model.specs.Index.{IndexData}
use Rattle.segment_plan.specs.Entries.{PlanView, plan_with}
use Rattle.final_certificate.specs.Rule.{report_by}
use Rattle.frame_pool.specs.Pool.{PoolView}
use Rattle.session_scores.specs.declared.scores.Scores.{Scores}
use Rattle.session_scores.specs.Scores as scores
use Rattle.session_engine.specs.Plans.{AreKnown, session_plan, need_of, query_heads}
use Rattle.session_engine.specs.declared.session.Session.{Session}
use Rattle.jass_base.specs.declared.limits.TheConstants.{MOST_TIMES}

-- ---- what is seen of a session

abbrev pub query_of : Session → Query
query_of s = s.query

abbrev pub terms_of : Session → List QueryTerm
terms_of s = s.query.terms

-- how many documents are asked for
abbrev pub k_of : Session → ℕ
k_of s = s.k

-- the sum of its grants
abbrev pub granted_of : Session → ℕ
granted_of s = s.granted

-- the number of its chain
abbrev pub chain_of : Session → ℕ
chain_of s = scores.own_chain s.scores

-- how many segments of its plan are scored
abbrev pub prefix_of : Session → ℕ
prefix_of s = s.scored

-- its scores with their first documents
abbrev pub scores_in : Session → Scores
scores_in s = s.scores

-- its plan, as it is arranged
abbrev pub plan_in : Session → PlanView
plan_in s = s.plan

-- its last report
abbrev pub report_of : Session → Report
report_of s = s.report

-- its plan over an index
abbrev pub plan_over : IndexData → Session → QueryPlan
plan_over index s = session_plan index (terms_of s)

-- its answer over an index
abbrev pub answer_over : IndexData → Session → List Hit
answer_over index s = top_k (prefix_of s) (plan_over index s) (k_of s)

-- the same query, number of documents and chain
pub record IsSessionOf (old new : Session) : Type 0 where
  pub query : query_of new ≡ query_of old
  pub k : k_of new ≡ k_of old
  pub chain : chain_of new ≡ chain_of old

-- the same plan, and as much room as before for the page table, the notes and the first documents
pub record KeepsRoom (old new : Session) : Type 0 where
  pub plan : plan_in new ≡ plan_in old
  pub scores : scores.room_of (scores_in new) ≡ scores.room_of (scores_in old)

-- ---- standing

-- the scores are those after the first n segments of a plan, in a chain that has no more frames than these have postings
pub record ScoredTo (n : ℕ) (plan : QueryPlan) (need : ℕ) (s : Scores) (pool : PoolView) : Type 0 where
  pub stand : scores.ScoresStand s pool
  pub docs : scores.docs_of s ≡ plan.docs
  pub sums : scores.scores_of s pool ≡ scores_after n plan
  pub frames : length (scores.own_view s pool).frames ≤ size_of_first n plan.segments
  pub promise : (scores.own_view s pool).promise ≡ need

-- the terms of a query are the index's, and a plan is arranged from the segments that they name
pub record IsPlanned (index : IndexData) (terms : List QueryTerm) (plan : PlanView) : Type 0 where
  pub known : AreKnown index terms
  pub times : All (λ (n : QueryTerm). n.times ≤ MOST_TIMES) terms
  pub arranged : plan ≡ plan_with terms (query_heads index terms)

-- the session has scored the longest prefix of its plan that its grants pay for, and its first documents and its report
-- are those of this prefix; its chain has the promise that the query needs
pub record SessionStands (s : Session) (index : IndexData) (pool : PoolView) : Type 0 where
  pub planned : IsPlanned index (terms_of s) s.plan
  pub prefix : prefix_of s ≡ prefix_within (granted_of s) (plan_over index s).segments
  pub scored : ScoredTo (prefix_of s) (plan_over index s) (need_of index (terms_of s)) s.scores pool
  pub settled : scores.IsSettled s.scores pool
  pub asked : scores.k_of s.scores ≡ k_of s
  pub report : report_of s ≡ report_by (prefix_of s) (plan_over index s) (k_of s)
