-- What contracts see of a session.
use Rattle.std.specs.Prelude.{ℕ}
use Rattle.jass_base.specs.declared.answer.Report.{Report}
use Rattle.jass_base.specs.declared.query.Query.{Query}
use Rattle.segment_plan.specs.Entries.{PlanView}
use Rattle.session_scores.specs.View.{ScoresView}

-- the scores with their first documents, the plan, the query, how many documents are asked for, the sum of the grants,
-- how many segments of the plan are scored, and the last report
pub record SessionView : Type 0 where
  pub scores : ScoresView
  pub plan : PlanView
  pub query : Query
  pub k : ℕ
  pub granted : ℕ
  pub scored : ℕ
  pub report : Report
