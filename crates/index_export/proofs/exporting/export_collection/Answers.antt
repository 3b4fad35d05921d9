-- The parts of the collection are those of the export.
use Rattle.std.proofs.Common.{◌≡◌, ◌<◌, ◌^◌, ℕ, List, [], length, sym, ap, ◌∙◌, subst, arith, All, replicate, sum_by}
use Rattle.jass_base.specs.Ciff.{HeaderData, DocData}
use Rattle.jass_base.specs.CiffViews.{list_data, doc_data, header_data}
use Rattle.jass_base.specs.Lists.{HasDocsBelow}
use Rattle.jass_base.specs.declared.postings_list.PostingsList.{PostingsList}
use Rattle.index_model.specs.Index.{TermData, IndexData}
use Rattle.index_export.specs.Exports.{term_list, impact_sum, exported_list, export_of}
use Rattle.index_export.proofs.Whole.{sum_is, sum_small, as_many, terms_differ}
use Rattle.index_export.proofs.exporting.export_collection.Goals as goal

pub cf_sum-requires : goal.cf_sum-requires
cf_sum-requires g c =
    let P : List PostingsList → Type 0 = λ (l : List PostingsList). sum_by (λ (x : PostingsList). x.cf) l < 2 ^ 63 in
    subst P (sym c.as_slice.ensures) (sum_small c.args.index.now.index c.in_ok-lists.lists c.is_checked.ensures.index c.is_checked.ensures.postings c.in_ok-lists.ensures.lists)

pub header_of-requires : goal.header_of-requires
header_of-requires g c =
    let small = sum_small c.args.index.now.index c.in_ok-lists.lists c.is_checked.ensures.index c.is_checked.ensures.postings c.in_ok-lists.ensures.lists in
    let is = c.cf_sum.ensures ∙ ap (λ (l : List PostingsList). sum_by (λ (x : PostingsList). x.cf) l) c.as_slice.ensures in
    omega (arith, small, is)

pub invariant_of-result : goal.invariant_of-result
invariant_of-result g c =
    let index = c.args.index.now.index in
    let named : List ℕ → DocData = λ (name : List ℕ). record { name = name; length = 0 } in
    let lists = as_many list_data exported_list c.in_ok-lists.lists index.terms c.in_ok-lists.ensures.lists in
    let docs = as_many doc_data named c.in_ok-docs.docs index.names c.in_ok-docs.ensures in
    let P : ℕ → Type 0 = λ (d : ℕ). All (HasDocsBelow d) c.in_ok-lists.lists in
    record {
      few_lists = omega (arith, lists, c.is_checked.ensures.index.few_terms);
      few_docs = omega (arith, docs, c.is_checked.ensures.index.few_names);
      docs_below = subst P (sym docs) c.in_ok-lists.ensures.below;
      terms_differ = terms_differ index c.in_ok-lists.lists c.is_checked.ensures.index c.in_ok-lists.ensures.lists;
    }

abbrev header_with : IndexData → ℕ → HeaderData
header_with index total = record {
  version = 1;
  total_lists = length index.terms;
  total_docs = length index.names;
  total_terms = total;
  average = replicate 8 0;
  description = [];
}

pub returns-clause-collection : goal.returns-clause-collection
unfolding export_of
returns-clause-collection g c =
    let index = c.args.index.now.index in
    let total : c.cf_sum.result ≡ sum_by (λ (t : TermData). impact_sum (term_list t)) index.terms =
    c.cf_sum.ensures ∙ ap (λ (l : List PostingsList). sum_by (λ (x : PostingsList). x.cf) l) c.as_slice.ensures ∙ sum_is index.terms c.in_ok-lists.lists c.in_ok-lists.ensures.lists in
    let header : header_data c.in_ok-header.header ≡ header_with index (sum_by (λ (t : TermData). impact_sum (term_list t)) index.terms) = c.in_ok-header.ensures ∙ ap (header_with index) total in
    (λ i. record { header = header i; lists = c.in_ok-lists.ensures.lists i; docs = c.in_ok-docs.ensures i })
