use Rattle.std.proofs.Common.{◌≡◌, ◌≤◌, List, All, sum_by, ap, subst, sym, ◌∙◌}
use Rattle.jass_base.specs.declared.limits.TheConstants.{MOST_DOCUMENTS, MOST_POSTINGS}
use Rattle.index_model.specs.Index.{IndexData}
use Rattle.index_model.specs.Merging.{union_terms}
use Rattle.index_layout.specs.View.{FileView, IsFileView}
use Rattle.shard_search.proofs.Unioned.{can_search, few_names, indexes_are}
use Rattle.shard_search.specs.Private.Standing.{AreBases}
use Rattle.shard_search.specs.Private.Tables.{IsTable, told_terms}
use Rattle.shard_search.specs.Sums.{file_docs, file_postings, indexes_of}
use Rattle.shard_search.proofs.shards.Shards.new.Goals as goal

pub invariant_of-result : goal.invariant_of-result
invariant_of-result c =
    let files = c.args.parts in
    let same = c.as_slice-files.ensures in
    let checked = subst (λ (l : List FileView). All IsFileView l) same c.are_checked.ensures in
    let docs = subst (λ (l : List FileView). sum_by file_docs l ≤ MOST_DOCUMENTS) same c.in_ok-check_documents.ensures in
    let postings = subst (λ (l : List FileView). sum_by file_postings l ≤ MOST_POSTINGS) same c.in_ok-check_postings.ensures in
    let indexes = indexes_of files in
    let merges = c.a_union_merges_its_parts.ensures indexes (indexes_are files checked) in
    record {
      checked = checked;
      searchable = can_search files checked (c.a_union_is_well_formed.ensures indexes (indexes_are files checked) (few_names files checked docs))
          (c.a_union_has_the_entries_of_its_parts.ensures.sizes indexes) postings;
      docs = c.in-Ok.ensures.docs ∙ ap (λ (l : List FileView). sum_by file_docs l) same;
      few_docs = docs;
      counted = c.in-Ok-try_from.ensures.1 ∙ c.len.ensures;
      bases = subst (λ (l : List FileView). AreBases l c.in-Ok.bases) same c.in-Ok.ensures.bases;
      table = subst (λ (l : List FileView). IsTable l c.in-Ok-union_table.table) same c.in-Ok-union_table.ensures.stands;
      names = ap (λ (x : IndexData). x.names) merges;
      terms = ap (λ (x : IndexData). x.terms) merges ∙ sym (subst (λ (l : List FileView). told_terms l c.in-Ok-union_table.table ≡ union_terms 0 (indexes_of l)) same c.in-Ok-union_table.ensures.terms);
    }
