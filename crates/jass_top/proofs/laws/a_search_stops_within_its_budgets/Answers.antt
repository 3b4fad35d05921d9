use Rattle.std.proofs.Common.{sum_by, ◌∙◌}
use Rattle.jass_top.specs.QueryJudging.{without_lines}
use Rattle.jass_top.specs.SearchMeaning.{plan_over_index}
use Rattle.jass_top.proofs.Searched.{scored_within}
use Rattle.jass_top.proofs.laws.a_search_stops_within_its_budgets.Goals as goal

pub returns-clause-run : goal.returns-clause-run
returns-clause-run c = λ k budgets tag inputs output is. is.run

pub returns-clause-reports : goal.returns-clause-reports
returns-clause-reports c = λ k budgets tag inputs output is. is.reports

pub returns-clause-steps : goal.returns-clause-steps
returns-clause-steps c = λ k budgets tag inputs output is. is.steps
    ∙ (λ i. sum_by (λ query. scored_within c.the_prefix_is_the_longest.ensures.fits budgets (plan_over_index inputs.index query) i) (without_lines inputs.queries))
