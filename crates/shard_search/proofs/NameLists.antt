-- The names of several files, one file after the other.
use Rattle.shared_lemmas.proofs.Common.{◌≡◌, ◌≤◌, ◌<◌, ◌+◌, ◌-◌, ℕ, suc, List, [], ◌∷◌, ◌++◌, length, drop, slice_get, Some, ap, ap₂, sym, ◌∙◌, refl, arith, length-append, length-map, drop-cons, get_or-map, slice_get-get_or, get_or_append_left, get_or-append_right, sum_by, length-flat_map}
use Rattle.shared_lemmas.proofs.Sums.{sum_map}
use Rattle.index_model.specs.Index.{IndexData}
use Rattle.index_layout.specs.View.{FileView}
use Rattle.shard_search.specs.Parts.{file_at, index_at}
use Rattle.shard_search.specs.Sums.{file_docs, indexes_of}
use Rattle.index_model.specs.Unions.{union_names}

module _ (files : List FileView) (i : ℕ) (inside : i < length files) where
  -- the index of a file, and those of the files behind it
  pub indexes_parted : drop i (indexes_of files) ≡ index_at files i ∷ drop (i + 1) (indexes_of files)
  indexes_parted =
      let d : FileView = record { index = record { names = []; terms = [] }; codecs = [] } in
      drop-cons (indexes_of files) i d.index (let size = length-map files (λ (f : FileView). f.index) in omega (arith, size, inside))
      ∙ ap₂ (λ (x : IndexData) (xs : List IndexData). x ∷ xs)
      (get_or-map (λ (f : FileView). f.index) files i d d.index inside)
      (ap (λ (n : ℕ). drop n (indexes_of files)) (let one : suc i ≡ i + 1 = omega arith in one))

  pub names_parted : union_names (drop i (indexes_of files)) ≡ (index_at files i).names ++ union_names (drop (i + 1) (indexes_of files))
  names_parted = ap union_names indexes_parted

  module _ (rest : ℕ) where
    -- a name of this file
    pub name_here : rest < file_docs (file_at files i) → slice_get (union_names (drop i (indexes_of files))) rest ≡ slice_get (index_at files i).names rest
    name_here low =
        let xs = (index_at files i).names in
        let ys = union_names (drop (i + 1) (indexes_of files)) in
        let size = length-append xs ys in
        ap (λ (l : List (List ℕ)). slice_get l rest) names_parted
        ∙ slice_get-get_or (xs ++ ys) rest [] (omega (arith, size, low))
        ∙ ap (λ (x : List ℕ). Some x) (get_or_append_left xs ys [] rest low)
        ∙ sym (slice_get-get_or xs rest [] low)

    -- a name of a file behind
    pub name_behind : rest < length (union_names (drop i (indexes_of files))) → file_docs (file_at files i) ≤ rest
        → slice_get (union_names (drop i (indexes_of files))) rest ≡ slice_get (union_names (drop (i + 1) (indexes_of files))) (rest - file_docs (file_at files i))
    name_behind inside_all high =
        let xs = (index_at files i).names in
        let ys = union_names (drop (i + 1) (indexes_of files)) in
        let size = length-append xs ys in
        let whole = ap length names_parted in
        ap (λ (l : List (List ℕ)). slice_get l rest) names_parted
        ∙ slice_get-get_or (xs ++ ys) rest [] (omega (arith, inside_all, whole))
        ∙ ap (λ (x : List ℕ). Some x) (get_or-append_right xs ys (length xs) rest [] refl high)
        ∙ sym (slice_get-get_or ys (rest - length xs) [] (omega (arith, inside_all, whole, size, high)))

    pub inside_behind : rest < length (union_names (drop i (indexes_of files))) → file_docs (file_at files i) ≤ rest
        → rest - file_docs (file_at files i) < length (union_names (drop (i + 1) (indexes_of files)))
    inside_behind inside_all high =
        let whole = ap length names_parted in
        let size = length-append (index_at files i).names (union_names (drop (i + 1) (indexes_of files))) in
        omega (arith, inside_all, whole, size, high)

-- there are as many names as documents
pub names_counted : (files : List FileView) → length (union_names (indexes_of files)) ≡ sum_by file_docs files
names_counted files =
    length-flat_map (λ (p : IndexData). p.names) (indexes_of files)
    ∙ sum_map (λ (p : IndexData). length p.names) (λ (f : FileView). f.index) files
