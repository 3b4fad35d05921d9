-- When a search stands over an index and a pool: it has stopped at the first prefix of its plan whose answer can't change, and at
-- that of its grants where none before it is such.
use Rattle.std.specs.Prelude.{ℕ, ◌≡◌, ◌<◌, ◌≤◌, true, false, List, length}
use Rattle.jass_base.specs.declared.answer.Hit.{Hit}
use Rattle.jass_base.specs.declared.answer.Report.{Report}
use Rattle.jass_base.specs.declared.query.Query.{Query}
use Rattle.jass_base.specs.declared.query_term.QueryTerm.{QueryTerm}
use Rattle.ranking_model.specs.declared.plan.QueryPlan.{QueryPlan}
use Rattle.ranking_model.specs.Plan.{prefix_within}
use Rattle.ranking_model.specs.Report as reports
use Rattle.ranking_model.specs.Scores.{top_k}
use Rattle.index_model.specs.Index.{IndexData}
use Rattle.frame_pool.specs.Pool.{PoolView}
use Rattle.segment_plan.specs.Entries.{PlanView}
use Rattle.session_scores.specs.Scores as scores
use Rattle.session_engine.specs.Plans.{session_plan}
use Rattle.session_engine.specs.Standing.{IsPlanned}
use Rattle.sharp_bounds.specs.Rule.{is_sharp, sharp_grade}
use Rattle.sharp_search.specs.Fronts.{FrontStands}
use Rattle.sharp_search.specs.declared.stopping.SharpSearch.{SharpSearch}

-- ---- what is seen of a search

abbrev pub query_of : SharpSearch → Query
query_of s = s.query

abbrev pub terms_of : SharpSearch → List QueryTerm
terms_of s = s.query.terms

-- how many documents are asked for
abbrev pub k_of : SharpSearch → ℕ
k_of s = s.k

-- the sum of its grants
abbrev pub granted_of : SharpSearch → ℕ
granted_of s = s.granted

-- the number of its chain
abbrev pub chain_of : SharpSearch → ℕ
chain_of s = scores.own_chain s.front.scores

-- how many segments of its plan are scored
abbrev pub prefix_of : SharpSearch → ℕ
prefix_of s = s.front.scored

-- its last report
abbrev pub report_of : SharpSearch → Report
report_of s = s.report

-- its plan over an index
abbrev pub plan_over : IndexData → SharpSearch → QueryPlan
plan_over index s = session_plan index (terms_of s)

-- its answer over an index
abbrev pub answer_over : IndexData → SharpSearch → List Hit
answer_over index s = top_k (prefix_of s) (plan_over index s) (k_of s)

-- the same query, number of documents and chain
pub record IsSearchOf (old new : SharpSearch) : Type 0 where
  pub query : query_of new ≡ query_of old
  pub k : k_of new ≡ k_of old
  pub chain : chain_of new ≡ chain_of old

-- ---- standing

-- a search goes on until the rule settles its answer or its grants pay for no more, and reports of what it has scored
pub record SharpStands (s : SharpSearch) (index : IndexData) (pool : PoolView) : Type 0 where
  pub planned : IsPlanned index (terms_of s) s.plan
  pub few : length (terms_of s) ≤ 64
  pub some : 1 ≤ k_of s
  pub front : FrontStands index (terms_of s) (k_of s) s.front pool
  pub within : prefix_of s ≤ prefix_within (granted_of s) (plan_over index s).segments
  pub stopped : prefix_of s < prefix_within (granted_of s) (plan_over index s).segments → is_sharp (prefix_of s) (plan_over index s) (k_of s) ≡ true
  pub report : report_of s ≡ reports.report_of (prefix_of s) (plan_over index s) (sharp_grade (prefix_of s) (plan_over index s) (k_of s))
