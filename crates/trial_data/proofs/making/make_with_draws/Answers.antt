-- The lists, the documents and the header of a whole collection.
use Rattle.shared_lemmas.proofs.Common.{◌∙◌, ℕ, map, ap, sym, subst, arith, All}
use Rattle.jass_base.specs.CiffViews.{header_data, doc_data}
use Rattle.jass_base.specs.Lists.{HasDocsBelow}
use Rattle.trial_data.specs.Private.Gathering.{cf_sum}
use Rattle.trial_data.specs.Trials.{lists_from, collection_with, trial_collection, trial_state}
use Rattle.trial_data.proofs.Listing.{cf_is, cf_small, lists_many, records_many, terms_differ, lengths_are, collection_is}
use Rattle.trial_data.proofs.making.make_with_draws.Goals as goal

pub cf_sum-requires : goal.cf_sum-requires
cf_sum-requires c =
    let is = ap cf_sum c.as_slice-2.ensures ∙ cf_is c.in_ok-lists.lists _ c.in_ok-lists.ensures.lists in
    omega (arith, cf_small c.args.docs c.args.terms 0 c.new-draws.result c.requires.docs, c.requires.terms)

pub header_of-requires-clause-terms : goal.header_of-requires-clause-terms
header_of-requires-clause-terms c =
    let is = c.cf_sum.ensures ∙ ap cf_sum c.as_slice-2.ensures ∙ cf_is c.in_ok-lists.lists _ c.in_ok-lists.ensures.lists in
    omega (arith, cf_small c.args.docs c.args.terms 0 c.new-draws.result c.requires.docs, c.requires.terms)

pub invariant_of-collection : goal.invariant_of-collection
invariant_of-collection c =
    let ls = (lists_from c.args.docs c.args.terms 0 c.new-draws.result).lists in
    let lists = lists_many c.args.docs c.args.terms c.new-draws.result c.in_ok-lists.lists c.in_ok-lists.ensures.lists in
    let lengths = lengths_are c.args.docs c.in-Ok.lengths.len ls c.as_mut_slice.result.now c.draw_lists.new.lengths c.as_slice.result.now c.in-Ok.lengths.items
    (c.as_mut_slice.ensures.value ∙ c.in-Ok.ensures.items_if_clones_equal (λ y e. e)) c.in_ok-lists.ensures.lengths c.in-Ok.ensures.len c.as_slice.ensures.value in
    let docs = records_many c.args.docs ls c.as_slice.result.now c.in_ok-records.records lengths c.in_ok-records.ensures in
    let few_terms = c.requires.terms in
    let few = c.requires.docs in
    record {
      few_lists = omega arith;
      few_docs = omega arith;
      docs_below = subst (λ (n : ℕ). All (HasDocsBelow n) c.in_ok-lists.lists) (sym docs) c.in_ok-lists.ensures.below;
      terms_differ = terms_differ c.args.docs c.args.terms c.new-draws.result c.in_ok-lists.lists c.requires.terms c.in_ok-lists.ensures.lists;
    }

pub returns-clause-collection : goal.returns-clause-collection
unfolding trial_collection
returns-clause-collection c =
    let ls = (lists_from c.args.docs c.args.terms 0 c.new-draws.result).lists in
    let lengths = lengths_are c.args.docs c.in-Ok.lengths.len ls c.as_mut_slice.result.now c.draw_lists.new.lengths c.as_slice.result.now c.in-Ok.lengths.items
    (c.as_mut_slice.ensures.value ∙ c.in-Ok.ensures.items_if_clones_equal (λ y e. e)) c.in_ok-lists.ensures.lengths c.in-Ok.ensures.len c.as_slice.ensures.value in
    collection_is c.args.docs c.args.terms c.new-draws.result c.cf_sum.result (header_data c.in_ok-header.header) c.in_ok-lists.lists (map doc_data c.in_ok-records.records) c.as_slice.result.now
    c.in_ok-header.ensures (c.cf_sum.ensures ∙ ap cf_sum c.as_slice-2.ensures) c.in_ok-lists.ensures.lists c.in_ok-records.ensures lengths
    ∙ ap (λ n. collection_with c.args.docs (lists_from c.args.docs c.args.terms 0 n).lists) c.new-draws.ensures

pub returns-clause-draws : goal.returns-clause-draws
unfolding trial_state
returns-clause-draws c = c.in_ok-lists.ensures.state ∙ ap (λ n. (lists_from c.args.docs c.args.terms 0 n).state) c.new-draws.ensures
