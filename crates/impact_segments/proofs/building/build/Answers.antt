-- The lists in order give the terms, and the terms the flat list.
use Rattle.shared_lemmas.proofs.Common.{◌≡◌, ℕ, ◌≤◌, List, map, filter, length, sym, subst, ap, ◌∙◌, arith, All, length-map}
use denote.Ref.{Bor}
use Rattle.impact_segments.proofs.Below.{DocRecord, PostingsList, HasDocsBelow, HasTermBelow, greatest_impact, IsInRange, sorted}
use Rattle.impact_segments.specs.Private.Weighed.{list_weights}
use Rattle.impact_segments.specs.Private.Listed.{has_postings, term_cmp, lists_behind}
use Rattle.impact_segments.proofs.OneIndex.{listed_all, listed_some, listed_shorter, terms_rise, built_flat, as_many, all_names, all_text}
use Rattle.impact_segments.proofs.building.build.Goals as goal

-- the lists that the terms are made of
listed_is : (lists given : List PostingsList) (items refs : List (Bor PostingsList)) → given ≡ lists → refs ≡ items → lists_behind items ≡ sorted term_cmp (filter has_postings given)
    → lists_behind refs ≡ sorted term_cmp (filter has_postings lists)
listed_is lists given items refs same refs_are is = ap lists_behind refs_are ∙ is ∙ ap (λ (l : List PostingsList). sorted term_cmp (filter has_postings l)) same

pub terms_of-requires-clause-some : goal.terms_of-requires-clause-some
terms_of-requires-clause-some c = listed_some c.args.collection.now.lists (lists_behind c.deref.result.now)
    (listed_is c.args.collection.now.lists c.as_slice-3.result.now c.in_ok-lists.lists.items c.deref.result.now c.as_slice-3.ensures c.deref.ensures.value c.in_ok-lists.ensures)

pub terms_of-requires-clause-below : goal.terms_of-requires-clause-below
terms_of-requires-clause-below c =
    let P : List DocRecord → Type 0 = λ (l : List DocRecord). All (HasDocsBelow (length l)) c.args.collection.now.lists in
    listed_all (HasDocsBelow (length c.in_ok-weigher.weigher.docs.now)) c.args.collection.now.lists (lists_behind c.deref.result.now)
    (listed_is c.args.collection.now.lists c.as_slice-3.result.now c.in_ok-lists.lists.items c.deref.result.now c.as_slice-3.ensures c.deref.ensures.value c.in_ok-lists.ensures)
    (subst P (sym (c.in_ok-weigher.ensures.docs ∙ c.as_slice.ensures)) c.args.collection.now.docs_below)

pub terms_of-requires-clause-in_range : goal.terms_of-requires-clause-in_range
terms_of-requires-clause-in_range c =
    let P : PostingsList → Type 0 = λ (l : PostingsList). All (IsInRange c.args.bits c.range_for-range.result) (list_weights c.in_ok-weigher.weigher.rule c.in_ok-weigher.weigher.docs.now l) in
    let Q : List PostingsList → Type 0 = λ (l : List PostingsList). All P l in
    listed_all P c.args.collection.now.lists (lists_behind c.deref.result.now)
    (listed_is c.args.collection.now.lists c.as_slice-3.result.now c.in_ok-lists.lists.items c.deref.result.now c.as_slice-3.ensures c.deref.ensures.value c.in_ok-lists.ensures)
    (subst Q c.as_slice-2.ensures c.range_for-range.ensures.in_range)

pub invariant_of-result : goal.invariant_of-result
invariant_of-result c =
    let names : c.in_ok-names.names ≡ map (λ (d : DocRecord). d.name) c.args.collection.now.docs = c.in_ok-names.ensures ∙ ap (map (λ (d : DocRecord). d.name)) c.as_slice-4.ensures in
    let size : length c.in_ok-names.names ≡ length c.args.collection.now.docs = ap length names ∙ length-map c.args.collection.now.docs (λ (d : DocRecord). d.name) in
    let docs : length c.in_ok-weigher.weigher.docs.now ≡ length c.in_ok-names.names = ap length (c.in_ok-weigher.ensures.docs ∙ c.as_slice.ensures) ∙ sym size in
    let listed = listed_is c.args.collection.now.lists c.as_slice-3.result.now c.in_ok-lists.lists.items c.deref.result.now c.as_slice-3.ensures c.deref.ensures.value c.in_ok-lists.ensures in
    let few : length (lists_behind c.deref.result.now) ≤ length c.args.collection.now.lists = listed_shorter c.args.collection.now.lists (lists_behind c.deref.result.now) listed in
    let many : length c.in_ok-terms.terms ≡ length (lists_behind c.deref.result.now) = as_many c.in_ok-terms.terms (lists_behind c.deref.result.now) c.in_ok-terms.ensures.terms in
    let P : ℕ → Type 0 = λ (n : ℕ). All (HasTermBelow n) c.in_ok-terms.terms in
    record {
      few_names = omega (arith, size, c.args.collection.now.few_docs);
      names_fit = all_names c.args.collection.now.docs c.in_ok-names.names names;
      names_are_text = all_text c.args.collection.now.docs c.in_ok-names.names names;
      few_terms = omega (arith, many, few, c.args.collection.now.few_lists);
      rising = terms_rise c.args.collection.now.lists (lists_behind c.deref.result.now) c.in_ok-terms.terms c.args.collection.now.terms_differ listed c.in_ok-terms.ensures.terms;
      docs_below = subst P docs c.in_ok-terms.ensures.docs;
      greatest_is = c.greatest_impact.ensures ∙ ap greatest_impact c.as_slice-5.ensures;
    }

pub returns-clause-flat : goal.returns-clause-flat
returns-clause-flat c =
    built_flat c.args.collection.now c.args.rule c.in_ok-weigher.weigher.rule c.args.bits c.in_ok-weigher.weigher.docs.now c.as_slice-2.result.now c.range_for-range.result (lists_behind c.deref.result.now) c.in_ok-terms.terms
    c.in_ok-weigher.ensures.rule (c.in_ok-weigher.ensures.docs ∙ c.as_slice.ensures) c.as_slice-2.ensures c.range_for-range.ensures.same
    (listed_is c.args.collection.now.lists c.as_slice-3.result.now c.in_ok-lists.lists.items c.deref.result.now c.as_slice-3.ensures c.deref.ensures.value c.in_ok-lists.ensures)
    c.in_ok-terms.ensures.entries
