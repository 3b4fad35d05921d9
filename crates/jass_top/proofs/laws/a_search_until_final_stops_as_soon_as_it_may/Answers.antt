use Rattle.std.proofs.Common.{sym}
use Rattle.jass_words.specs.declared.until.Until.TheVariants as untils
use Rattle.jass_top.specs.QueryJudging.{without_lines}
use Rattle.jass_top.proofs.Asked.{can_be_searched}
use Rattle.jass_top.proofs.Stops.{each_stops, stop_stays}
use Rattle.jass_top.proofs.laws.a_search_until_final_stops_as_soon_as_it_may.Goals as goal

pub returns-clause-stop : goal.returns-clause-stop
returns-clause-stop c = λ index queries mode files inputs k granted bytes accepted.
    let can = can_be_searched c.index_files_are_judged.ensures.found c.query_files_are_judged.ensures.found c.ids_of_a_query_file_are_columns.ensures c.terms_of_a_query_file_can_be_asked.ensures untils.Final index queries mode files inputs bytes accepted in
    each_stops c.the_rule_says_where_to_stop.ensures.stop c.the_flat_list_is_flat.ensures.numbers k granted inputs.index can.view can.file can.index (without_lines inputs.queries) can.terms

pub returns-clause-one : goal.returns-clause-one
returns-clause-one c = λ k granted n plan is other. sym (c.the_rule_says_where_to_stop.ensures.one_stop granted k _ n plan is other)

pub returns-clause-stays : goal.returns-clause-stays
returns-clause-stays c = λ k granted more plan less is later final.
    stop_stays c.a_prefix_is_resumed.ensures.prefix c.a_prefix_is_resumed.ensures.size c.the_rule_says_where_to_stop.ensures.one_stop k granted more plan less is later final
