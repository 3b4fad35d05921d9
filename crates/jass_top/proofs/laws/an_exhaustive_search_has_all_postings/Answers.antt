use Rattle.std.proofs.Common.{length, sym}
use Rattle.jass_top.specs.SearchMeaning.{plan_over_index}
use Rattle.jass_words.specs.declared.until.Until.TheVariants as untils
use Rattle.jass_top.proofs.Asked.{can_be_searched}
use Rattle.jass_top.proofs.Exhausted.{content_same, steps_same}
use Rattle.jass_top.proofs.laws.an_exhaustive_search_has_all_postings.Goals as goal

pub returns-clause-run : goal.returns-clause-run
returns-clause-run c = λ index queries k tag mode files inputs output other bytes accepted is theirs.
    let can = can_be_searched c.index_files_are_judged.ensures.found c.query_files_are_judged.ensures.found c.ids_of_a_query_file_are_columns.ensures c.terms_of_a_query_file_can_be_asked.ensures untils.Budget index queries mode files inputs bytes accepted in
    content_same c.the_prefix_is_the_longest.ensures.longest c.the_prefix_is_the_longest.ensures.there c.plans_are_small.ensures c.the_segments_have_all_postings.ensures.number c.a_plan_has_the_segments_of_its_postings.ensures.segments c.the_flat_list_is_flat.ensures.numbers
    k tag can.view can.file inputs output other can.index can.terms is theirs

pub returns-clause-steps : goal.returns-clause-steps
returns-clause-steps c = λ index queries k tag mode files inputs output other bytes accepted is theirs.
    let can = can_be_searched c.index_files_are_judged.ensures.found c.query_files_are_judged.ensures.found c.ids_of_a_query_file_are_columns.ensures c.terms_of_a_query_file_can_be_asked.ensures untils.Budget index queries mode files inputs bytes accepted in
    steps_same c.the_prefix_is_the_longest.ensures.longest c.the_prefix_is_the_longest.ensures.there c.plans_are_small.ensures c.the_segments_have_all_postings.ensures.number c.a_plan_has_the_segments_of_its_postings.ensures.segments c.the_flat_list_is_flat.ensures.numbers
    k tag can.view can.file inputs output other can.index can.terms is theirs

pub returns-clause-documents : goal.returns-clause-documents
returns-clause-documents c = λ index query k n report within is final.
    sym (is.promised.final_stands final (length (plan_over_index index query).segments) within)
