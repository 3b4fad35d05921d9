use Rattle.jass_base.specs.CiffViews.{collection_data}
use Rattle.asked_lists.proofs.ByTerm.{asked_answer_alike, data_differ}
use Rattle.asked_lists.proofs.laws.asked_lists_answer_alike.Goals as goal

pub returns-clause-lists : goal.returns-clause-lists
returns-clause-lists c = asked_answer_alike c.lists_by_term_make_the_index.ensures c.widened_lists_have_the_range.ensures.raw c.a_query_weighs_its_segments.ensures

pub returns-clause-collection : goal.returns-clause-collection
returns-clause-collection c = λ one rule words.
    asked_answer_alike c.lists_by_term_make_the_index.ensures c.widened_lists_have_the_range.ensures.raw c.a_query_weighs_its_segments.ensures (collection_data one) rule words (data_differ one.lists one.terms_differ)
