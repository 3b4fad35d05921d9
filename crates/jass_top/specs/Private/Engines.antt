-- A query that is being searched: by a session, or by a search that stops once its answer is sharply final.
use Rattle.std.specs.Prelude.{ℕ, ◌≡◌, List}
use Rattle.jass_base.specs.declared.answer.Hit.{Hit}
use Rattle.jass_base.specs.declared.answer.Report.{Report}
use Rattle.jass_base.specs.declared.query.Query.{Query}
use Rattle.ranking_model.specs.declared.plan.QueryPlan.{QueryPlan}
use Rattle.ranking_model.specs.Scores.{top_k}
use Rattle.index_model.specs.Index.{IndexData}
use Rattle.frame_pool.specs.Pool.{PoolView}
use Rattle.session_engine.specs.Plans.{session_plan}
use Rattle.session_engine.specs.Standing as sessions
use Rattle.sharp_search.specs.Standing as searches
use Rattle.jass_words.specs.declared.until.Until.{Until}
use Rattle.jass_words.specs.declared.until.Until.TheVariants as untils
use Rattle.jass_top.specs.declared.engine.Engine.{Engine}
use Rattle.jass_top.specs.declared.engine.Engine.TheVariants.{Plain, Sharp}

-- ---- what is seen of it

abbrev pub until_of : Engine → Until
until_of (Plain s) = untils.Budget
until_of (Sharp s) = untils.Final

abbrev pub query_of : Engine → Query
query_of (Plain s) = sessions.query_of s
query_of (Sharp s) = searches.query_of s

-- how many documents are asked for
abbrev pub k_of : Engine → ℕ
k_of (Plain s) = sessions.k_of s
k_of (Sharp s) = searches.k_of s

-- the sum of its grants
abbrev pub granted_of : Engine → ℕ
granted_of (Plain s) = sessions.granted_of s
granted_of (Sharp s) = searches.granted_of s

-- the number of its chain
abbrev pub chain_of : Engine → ℕ
chain_of (Plain s) = sessions.chain_of s
chain_of (Sharp s) = searches.chain_of s

-- how many segments of its plan are scored
abbrev pub prefix_of : Engine → ℕ
prefix_of (Plain s) = sessions.prefix_of s
prefix_of (Sharp s) = searches.prefix_of s

-- its last report
abbrev pub report_of : Engine → Report
report_of (Plain s) = sessions.report_of s
report_of (Sharp s) = searches.report_of s

-- its plan over an index
abbrev pub plan_over : IndexData → Engine → QueryPlan
plan_over index engine = session_plan index (query_of engine).terms

-- its answer over an index
abbrev pub answer_over : IndexData → Engine → List Hit
answer_over index engine = top_k (prefix_of engine) (plan_over index engine) (k_of engine)

-- searched as far, for the same query, number of documents and chain
pub record IsEngineOf (old new : Engine) : Type 0 where
  pub until : until_of new ≡ until_of old
  pub query : query_of new ≡ query_of old
  pub k : k_of new ≡ k_of old
  pub chain : chain_of new ≡ chain_of old

-- ---- standing

abbrev pub EngineStands : Engine → IndexData → PoolView → Type 0
EngineStands (Plain s) index pool = sessions.SessionStands s index pool
EngineStands (Sharp s) index pool = searches.SharpStands s index pool
