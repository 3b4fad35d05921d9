-- What the union of checked files keeps.
use Rattle.shared_lemmas.proofs.Common.{◌≡◌, ◌≤◌, ℕ, List, length, All, All-map, All-weaker, sum_by, subst, refl, sym, ◌∙◌}
use Rattle.shared_lemmas.proofs.Sums.{sum_map}
use Rattle.jass_base.specs.declared.limits.TheConstants.{MOST_DOCUMENTS, MOST_POSTINGS}
use Rattle.index_model.specs.Index.{IsIndex, IsWellFormed}
use Rattle.index_model.specs.Unions.{union_names, union_of}
use Rattle.index_layout.specs.View.{FileView, IsFileView, index_postings}
use Rattle.index_file.specs.Sources.{IsSearchable}
use Rattle.shard_search.proofs.NameLists.{names_counted}
use Rattle.shard_search.specs.Sums.{file_docs, file_postings, indexes_of}
use Rattle.shard_search.specs.Union.{union_index}
use Rattle.shard_search.specs.declared.rows.PartSegment.{PartSegment}

module _ (files : List FileView) (checked : All IsFileView files) where
  pub indexes_are : All IsIndex (indexes_of files)
  indexes_are = All-map IsIndex (λ (f : FileView). f.index) files (All-weaker IsFileView (λ (f : FileView). IsIndex f.index) (λ f is. is.index) files checked)

  pub few_names : sum_by file_docs files ≤ MOST_DOCUMENTS → length (union_names (indexes_of files)) ≤ MOST_DOCUMENTS
  few_names few = subst (λ (n : ℕ). n ≤ MOST_DOCUMENTS) (sym (names_counted files)) few

  pub can_search : IsWellFormed (union_of (indexes_of files)) → index_postings (union_of (indexes_of files)) ≡ sum_by index_postings (indexes_of files)
      → sum_by file_postings files ≤ MOST_POSTINGS → IsSearchable (union_of (indexes_of files))
  can_search well sizes few = record {
    is_well_formed = well;
    postings = subst (λ (n : ℕ). n ≤ MOST_POSTINGS) (sym (sizes ∙ sum_map index_postings (λ (f : FileView). f.index) files)) few;
  }

-- the terms and the names that callers see
pub index_terms : (files : List FileView) (pieces : List PartSegment) → (union_index (record { files = files; pieces = pieces })).terms ≡ (union_of (indexes_of files)).terms
unfolding union_index
index_terms files pieces = refl

pub index_names : (files : List FileView) (pieces : List PartSegment) → (union_index (record { files = files; pieces = pieces })).names ≡ (union_of (indexes_of files)).names
unfolding union_index
index_names files pieces = refl

pub index_searchable : (files : List FileView) (pieces : List PartSegment) → IsSearchable (union_of (indexes_of files)) → IsSearchable (union_index (record { files = files; pieces = pieces }))
unfolding union_index
index_searchable files pieces is = is
