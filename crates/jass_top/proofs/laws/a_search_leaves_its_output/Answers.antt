use Rattle.std.proofs.Common.{subst}
use Rattle.jass_top.specs.Meanings.{Output}
use Rattle.jass_top.specs.QueryJudging.{without_lines}
use Rattle.jass_top.specs.SearchMeaning.{IsSearchOutput, search_within}
use Rattle.jass_top.proofs.Searched.{same_output, searched}
use Rattle.jass_top.proofs.laws.a_search_leaves_its_output.Goals as goal

pub returns-clause-at_stops : goal.returns-clause-at_stops
returns-clause-at_stops c = λ index wanted queries is named.
    searched c.a_prefix_has_one_report.ensures.report c.reports_keep_their_promises.ensures c.the_rule_says_where_to_stop.ensures.grade c.a_sharply_final_answer_stands.ensures.answer c.a_final_answer_is_sharply_final.ensures index
    (c.the_flat_list_is_flat.ensures.numbers index is.is_well_formed) wanted queries named

pub returns-clause-within_budgets : goal.returns-clause-within_budgets
returns-clause-within_budgets c = λ index k budgets tag queries is.
    subst (λ (output : Output). IsSearchOutput (search_within k budgets tag) (record { index = index; queries = queries }) output)
    (same_output c.the_prefix_is_the_longest.ensures.fits c.each_budget_has_its_prefix.ensures.many index k budgets tag (without_lines queries))
    (searched c.a_prefix_has_one_report.ensures.report c.reports_keep_their_promises.ensures c.the_rule_says_where_to_stop.ensures.grade c.a_sharply_final_answer_stands.ensures.answer c.a_final_answer_is_sharply_final.ensures index
    (c.the_flat_list_is_flat.ensures.numbers index is.is_well_formed) (search_within k budgets tag) queries (λ final. cc))
