-- The documents of part segments.
use Rattle.shared_lemmas.proofs.Common.{◌≡◌, ◌≤◌, ◌<◌, ◌+◌, ◌^◌, ℕ, List, [], ◌∷◌, ◌++◌, length, map, take, drop, slice_range, slice_index_or, All, ap, sym, ◌∙◌, refl, arith, length-append, length-map, length-take, length-take-le, length-drop, map-append, append_assoc, append-nil, flat_map-append, take-append-drop, nil_from_length, sum_by, sum_by_more_le}
use Rattle.jass_base.specs.Gaps.{AreDocs}
use Rattle.jass_base.specs.declared.limits.TheConstants.{MOST_DOCUMENTS}
use Rattle.index_layout.specs.View.{FileView, IsFileView}
use Rattle.index_file.specs.Places.{segment_at}
use Rattle.shard_search.proofs.Ranges.{range_cons}
use Rattle.shard_search.specs.Parts.{IsPartSegment, base_of, file_at, index_at, piece_docs, pieces_docs}
use Rattle.shard_search.specs.Sums.{file_docs}
use Rattle.shard_search.specs.declared.rows.PartSegment.{PartSegment}

-- the documents of a part's segment, as the part has them
abbrev pub own_docs : List FileView → PartSegment → List ℕ
own_docs files piece = (segment_at (index_at files piece.part).terms piece.term piece.segment).docs

module _ (files : List FileView) where
  pub piece_is : (piece : PartSegment) → piece_docs files piece ≡ map (λ d. base_of files piece.part + d) (own_docs files piece)
  unfolding piece_docs
  piece_is piece = refl

  pub piece_counted : (piece : PartSegment) → length (piece_docs files piece) ≡ length (own_docs files piece)
  piece_counted piece = ap length (piece_is piece) ∙ length-map (own_docs files piece) (λ d. base_of files piece.part + d)

  pub one_piece : (piece : PartSegment) → pieces_docs files (piece ∷ []) ≡ piece_docs files piece
  one_piece piece = append-nil (piece_docs files piece)

  pub two_pieces : (xs ys : List PartSegment) → pieces_docs files (xs ++ ys) ≡ pieces_docs files xs ++ pieces_docs files ys
  two_pieces xs ys = flat_map-append (piece_docs files) xs ys

  -- the documents of a part's segment are the part's
  pub own_are : (piece : PartSegment) → IsPartSegment files piece → IsFileView (file_at files piece.part) → AreDocs (file_docs (file_at files piece.part)) (own_docs files piece)
  own_are piece is view =
      ((view.index.terms piece.term (record { term = []; segments = [] }) is.term).segments piece.segment (record { impact = 0; docs = [] }) is.segment).docs

  -- part segments as the first and the rest
  pub pieces_parted : (pieces : List PartSegment) (from to : ℕ) (d : PartSegment) → from < to → to ≤ length pieces
      → pieces_docs files (slice_range pieces from to) ≡ piece_docs files (slice_index_or pieces from d) ++ pieces_docs files (slice_range pieces (from + 1) to)
  pieces_parted pieces from to d some within = ap (pieces_docs files) (range_cons pieces from to d some within)

  -- a part's documents, raised, are below the number of all documents
  pub base_fits : (part : ℕ) → part < length files → base_of files part + file_docs (file_at files part) ≤ sum_by file_docs files
  base_fits part inside = sum_by_more_le file_docs files part (record { index = record { names = []; terms = [] }; codecs = [] }) inside

  pub raised_fits : (part : ℕ) → part < length files → sum_by file_docs files ≤ MOST_DOCUMENTS → (docs : List ℕ) → All (λ doc. doc < file_docs (file_at files part)) docs
      → All (λ doc. base_of files part + doc < 2 ^ 32) docs
  raised_fits part inside few docs are = λ i d there. (let fits = base_fits part inside in let low = are i d there in omega (arith, fits, few, low))

-- a list of one item whose front has one
pub one_in_front : (xs ys : List ℕ) → length (xs ++ ys) ≡ 1 → 0 < length xs → (length xs ≡ 1) × (ys ≡ [])
one_in_front xs ys one some =
    let sum = length-append xs ys in
    let none : length ys ≡ 0 = omega (arith, sum, one, some) in
    (omega (arith, sum, one, some), nil_from_length ys none)

-- what is given of a list is its front
module _ (docs block : List ℕ) (n : ℕ) (same : take n block ≡ take n docs) (room : n ≤ length block) where
  pub given_few : n ≤ length docs
  given_few = (let here = ap length same in let a = length-take-le n block room in let b = length-take n docs in omega (arith, here, a, b))

  pub given_left : length (drop n docs) + n ≡ length docs
  given_left = (let size = length-drop n docs in let few = given_few in omega (arith, size, few))

  pub given_parted : (base : ℕ) (raised behind : List ℕ) → raised ≡ map (λ d. base + d) (take n block)
      → raised ++ (map (λ d. base + d) (drop n docs) ++ behind) ≡ map (λ d. base + d) docs ++ behind
  given_parted base raised behind is =
      ap (λ (l : List ℕ). l ++ (map (λ d. base + d) (drop n docs) ++ behind)) (is ∙ ap (map (λ d. base + d)) same)
      ∙ sym (append_assoc (map (λ d. base + d) (take n docs)) (map (λ d. base + d) (drop n docs)) behind)
      ∙ ap (λ (l : List ℕ). l ++ behind) (sym (map-append (λ d. base + d) (take n docs) (drop n docs)) ∙ ap (map (λ d. base + d)) (take-append-drop n docs))
