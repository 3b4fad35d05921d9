-- How far a query is searched: as far as its grants pay, or no further than until its answer is sharply final. This
-- project's.
use Rattle.std.specs.Prelude.{ℕ, List, length, map, take}
use Rattle.std.specs.List.{range_with_len}
use Rattle.jass_base.specs.declared.answer.Budget.{Budget}
use Rattle.jass_base.specs.declared.answer.Report.{Report}
use Rattle.ranking_model.specs.declared.plan.QueryPlan.{QueryPlan}
use Rattle.ranking_model.specs.Plan.{granted_sum, prefix_within}
use Rattle.ranking_model.specs.Report.{IsReport}
use Rattle.sharp_bounds.specs.Rule.{stop_at}
use Rattle.sharp_bounds.specs.Sharpness.{IsSharpReport}
use Rattle.jass_words.specs.declared.until.Until.{Until}
use Rattle.jass_words.specs.declared.until.Until.TheVariants as untils

-- the prefix of a plan that is reported where so much was granted: the longest that this pays for, or the first before it
-- whose answer is sharply final
abbrev pub stop_granted : Until → ℕ → ℕ → QueryPlan → ℕ
stop_granted untils.Budget k granted plan = prefix_within granted plan.segments
stop_granted untils.Final k granted plan = stop_at granted plan k

-- one for each of some budgets, which are granted one after the other
abbrev pub stops_granted : Until → ℕ → List Budget → QueryPlan → List ℕ
stops_granted until k budgets plan =
    map (λ j. stop_granted until k (granted_sum (take j budgets)) plan) (range_with_len 1 (length budgets))

-- the report after the first n segments: of a search until final it is final exactly where the answer is sharply final
abbrev pub IsReportUntil : Until → ℕ → QueryPlan → ℕ → Report → Type 0
IsReportUntil untils.Budget n plan k report = IsReport n plan k report
IsReportUntil untils.Final n plan k report = IsSharpReport n plan k report
