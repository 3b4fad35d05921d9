-- The terms of a part, and of the parts from one on.
use Rattle.shared_lemmas.proofs.Common.{◌≡◌, ◌<◌, ◌+◌, ℕ, List, [], length, map, drop, ap, sym, ◌∙◌, arith, sum_by_more, drop_all, length-map}
use Rattle.index_layout.specs.View.{FileView}
use Rattle.shard_search.proofs.NameLists.{indexes_parted}
use Rattle.index_model.specs.Merging.{merged_terms, union_terms}
use Rattle.shard_search.specs.Parts.{base_of, index_at}
use Rattle.shard_search.specs.Sums.{file_docs, indexes_of}
use Rattle.index_model.specs.Unions.{raised_term}

module _ (files : List FileView) where
  -- behind the last part there is no term
  pub no_part : union_terms (base_of files (length files)) (drop (length files) (indexes_of files)) ≡ []
  no_part = ap (union_terms (base_of files (length files))) (drop_all (length files) (indexes_of files) (let size = length-map files (λ (f : FileView). f.index) in omega (arith, size)))

  -- one part more in front
  pub part_more : (part : ℕ) → part < length files
      → union_terms (base_of files part) (drop part (indexes_of files))
      ≡ merged_terms (map (raised_term (base_of files part)) (index_at files part).terms) (union_terms (base_of files (part + 1)) (drop (part + 1) (indexes_of files)))
  part_more part inside =
      ap (union_terms (base_of files part)) (indexes_parted files part inside)
      ∙ ap (λ (base : ℕ). merged_terms (map (raised_term (base_of files part)) (index_at files part).terms) (union_terms base (drop (part + 1) (indexes_of files))))
      (sym (sum_by_more file_docs files part (record { index = record { names = []; terms = [] }; codecs = [] }) inside))
