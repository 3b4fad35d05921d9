-- The lists and the documents in their order.
use Rattle.shared_lemmas.proofs.Common.{length, ap, ◌∙◌, arith}
use Rattle.impact_segments.specs.Collections.{total_of}
use Rattle.index_import.proofs.Outlining.{as_many_lengths, outline_is, outlined}
use Rattle.index_import.proofs.outline.Outline.new.Goals as goal

pub total_length-total-requires : goal.total_length-total-requires
total_length-total-requires c =
    omega (arith, ap length c.deref.ensures.value, ap length c.in-Ok.ensures.lengths, as_many_lengths _ _ c.in-Ok.ensures.docs, c.requires.docs_are, c.requires.ranges.few_docs)

pub returns-clause-outlined : goal.returns-clause-outlined
returns-clause-outlined c =
    outlined _ _ _ _ _ _ _ c.requires c.in-Ok.ensures.docs c.in-Ok.ensures.lengths c.put_in_order.ensures.same
    c.in-Ok.ensures.sorted
    (c.total_length-total.ensures ∙ ap total_of c.deref.ensures.value)

pub returns-clause-exact : goal.returns-clause-exact
returns-clause-exact c content survey =
    outline_is c.records_have_one_order.ensures _ _ _ _ _ _ _ c.requires c.in-Ok.ensures.docs c.in-Ok.ensures.lengths c.put_in_order.ensures.same survey
