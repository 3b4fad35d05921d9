-- What contracts see of a search.
use Rattle.std.specs.Prelude.{ℕ}
use Rattle.jass_base.specs.declared.answer.Report.{Report}
use Rattle.jass_base.specs.declared.query.Query.{Query}
use Rattle.segment_plan.specs.Entries.{PlanView}
use Rattle.sharp_search.specs.declared.front.Front.{Front}

-- how far it has come, the plan, the query, how many documents are asked for, the sum of the grants, and the last report
pub record SearchView : Type 0 where
  pub front : Front
  pub plan : PlanView
  pub query : Query
  pub k : ℕ
  pub granted : ℕ
  pub report : Report
