use Rattle.shared_lemmas.proofs.Common.{[], ap, sum_by, sym, ◌∙◌}
use Rattle.index_write.proofs.Below.{IndexData}
use Rattle.index_write.proofs.Entries.{size_of}
use Rattle.index_write.proofs.Files.{prefix_more, sets_more}
use Rattle.index_write.proofs.Streamed.{payloads_more, totals_chosen}
use Rattle.index_write.proofs.laws.appended_payloads_make_the_text.Goals as goal

pub returns-clause-more : goal.returns-clause-more
returns-clause-more c = payloads_more

pub returns-clause-file : goal.returns-clause-file
returns-clause-file c = sets_more

pub returns-clause-prefix : goal.returns-clause-prefix
returns-clause-prefix c = prefix_more

pub returns-clause-totals : goal.returns-clause-totals
returns-clause-totals c = totals_chosen

pub returns-clause-sizes : goal.returns-clause-sizes
returns-clause-sizes c = λ d terms.
    let index : IndexData = record { names = []; terms = terms } in
    sym (ap (sum_by size_of) (c.texts_have_their_parts.ensures.heads d index) ∙ c.tables_have_their_sums.ensures.sizes d index)
