-- How a union's segment is handed out, part after part.
use Rattle.shared_lemmas.proofs.Common.{◌≡◌, ◌≤◌, ◌<◌, ◌+◌, ◌-◌, ◌^◌, ℕ, List, [], ◌∷◌, ◌++◌, length, map, take, drop, slice_range, slice_index_or, All, All-drop, ap, ap₂, sym, subst, ◌∙◌, refl, arith, nil_from_length, get_or_default, sum_by}
use Rattle.jass_base.specs.declared.limits.TheConstants.{MOST_DOCUMENTS}
use Rattle.index_layout.specs.View.{FileView, IsFileView}
use Rattle.index_file.specs.Giving.{Gives}
use Rattle.index_file.specs.Places.{segment_at}
use Rattle.index_file.specs.declared.cursor.Cursor.{Cursor}
use Rattle.shard_search.proofs.Pieces.{base_fits, given_left, given_parted, one_in_front, own_are, own_docs, piece_counted, piece_is, pieces_parted}
use Rattle.shard_search.proofs.Ranges.{range_none}
use Rattle.shard_search.specs.Parts.{IsPartSegment, base_of, file_at, piece_docs, pieces_docs}
use Rattle.shard_search.specs.Sums.{file_docs}
use Rattle.shard_search.specs.Union.{Leaves, UnionView}
use Rattle.shard_search.specs.declared.cursor.ShardCursor.{ShardCursor}
use Rattle.shard_search.specs.declared.rows.PartSegment.{PartSegment}

abbrev pub no_piece : PartSegment
no_piece = record { part = 0; term = 0; segment = 0 }

-- a file by its number, as a row gives it
pub file_there : (files rows : List FileView) (part : ℕ) (file : FileView) → file ≡ slice_index_or rows part file → rows ≡ files → part < length files → file ≡ file_at files part
file_there files rows part file is same inside =
    is ∙ ap (λ (l : List FileView). slice_index_or l part file) same ∙ get_or_default files part file (record { index = record { names = []; terms = [] }; codecs = [] }) inside

-- ---- the first of some part segments

module _ (files : List FileView) (pieces rows : List PartSegment) (same : rows ≡ pieces) (from to : ℕ) (some : from < to) (within : to ≤ length pieces) (stand : All (IsPartSegment files) pieces) where
  abbrev p : PartSegment
  p = slice_index_or rows from no_piece

  p_is : p ≡ slice_index_or pieces from no_piece
  p_is = ap (λ (l : List PartSegment). slice_index_or l from no_piece) same

  pub first_stands : IsPartSegment files (slice_index_or rows from no_piece)
  first_stands = subst (IsPartSegment files) (sym p_is) (stand from no_piece (omega (arith, some, within)))

  parted : pieces_docs files (slice_range pieces from to) ≡ piece_docs files p ++ pieces_docs files (slice_range pieces (from + 1) to)
  parted = pieces_parted files pieces from to no_piece some within ∙ ap (λ (x : PartSegment). piece_docs files x ++ pieces_docs files (slice_range pieces (from + 1) to)) (sym p_is)

  module _ (file : FileView) (file_is : file ≡ file_at files (slice_index_or rows from no_piece).part) (checked : IsFileView file) where
    own_is : (segment_at file.index.terms p.term p.segment).docs ≡ own_docs files p
    own_is = ap (λ (f : FileView). (segment_at f.index.terms p.term p.segment).docs) file_is

    viewed : IsFileView (file_at files p.part)
    viewed = subst IsFileView file_is checked

    pub begins : (inner : Cursor) (left : ℕ)
        → Gives file inner (segment_at file.index.terms (slice_index_or rows from no_piece).term (slice_index_or rows from no_piece).segment).docs
        → left ≡ length (segment_at file.index.terms (slice_index_or rows from no_piece).term (slice_index_or rows from no_piece).segment).docs
        → Leaves (record { files = files; pieces = pieces }) (record { inner = inner; part = (slice_index_or rows from no_piece).part; left = left; next = from + 1; end = to }) (pieces_docs files (slice_range pieces from to))
    begins inner left gives counts = record {
      part = first_stands.part;
      rest = own_docs files p;
      gives = subst (λ (f : FileView). Gives f inner (own_docs files p)) file_is (subst (Gives file inner) own_is gives);
      left = counts ∙ ap length own_is;
      inside = (own_are files p first_stands viewed).below;
      order = omega (arith, some);
      within = within;
      docs_are = parted ∙ ap (λ (l : List ℕ). l ++ pieces_docs files (slice_range pieces (from + 1) to)) (piece_is files p);
    }

    -- where there is one document, it is that of the first part segment
    module _ (one : length (pieces_docs files (slice_range pieces from to)) ≡ 1) where
      front : (length (piece_docs files p) ≡ 1) × (pieces_docs files (slice_range pieces (from + 1) to) ≡ [])
      front = one_in_front (piece_docs files p) (pieces_docs files (slice_range pieces (from + 1) to)) (sym (ap length parted) ∙ one)
          (let count = piece_counted files p in let filled = (own_are files p first_stands viewed).some in omega (arith, count, filled))

      pub only_one : length (segment_at file.index.terms (slice_index_or rows from no_piece).term (slice_index_or rows from no_piece).segment).docs ≡ 1
      only_one = ap length own_is ∙ sym (piece_counted files p) ∙ front.0

      module _ (doc : ℕ) (is : (segment_at file.index.terms (slice_index_or rows from no_piece).term (slice_index_or rows from no_piece).segment).docs ≡ doc ∷ []) where
        pub only_fits : sum_by file_docs files ≤ MOST_DOCUMENTS → base_of files (slice_index_or rows from no_piece).part + doc < 2 ^ 32
        only_fits few =
            let below : All (λ d. d < file_docs (file_at files p.part)) (doc ∷ []) = subst (All (λ d. d < file_docs (file_at files p.part))) (sym own_is ∙ is) (own_are files p first_stands viewed).below in
            let low : doc < file_docs (file_at files p.part) = below 0 0 (omega arith) in
            let fits = base_fits files p.part first_stands.part in
            omega (arith, low, fits, few)

        pub only_is : pieces_docs files (slice_range pieces from to) ≡ (base_of files (slice_index_or rows from no_piece).part + doc) ∷ []
        only_is =
            parted
            ∙ ap₂ (λ (a b : List ℕ). a ++ b) (piece_is files p ∙ ap (map (λ d. base_of files p.part + d)) (sym own_is ∙ is)) front.1

-- ---- one step

module _ (view : UnionView) (cursor : ShardCursor) (docs : List ℕ) (leaves : Leaves view cursor docs) where
  pub gives_on : (n base : ℕ) (block raised : List ℕ) (inner : Cursor) → base ≡ base_of view.files cursor.part → take n block ≡ take n leaves.rest → n ≤ length block
      → raised ≡ map (λ d. base + d) (take n block) → Gives (file_at view.files cursor.part) inner (drop n leaves.rest)
      → (x : List ℕ) × Leaves view (record { inner = inner; part = cursor.part; left = cursor.left - n; next = cursor.next; end = cursor.end }) x × (raised ++ x ≡ docs)
  gives_on n base block raised inner base_is same room lifted gives =
      let behind = pieces_docs view.files (slice_range view.pieces cursor.next cursor.end) in
      let left = given_left leaves.rest block n same room in
      let was = leaves.left in (
        map (λ d. base_of view.files cursor.part + d) (drop n leaves.rest) ++ behind,
        record {
          part = leaves.part;
          rest = drop n leaves.rest;
          gives = gives;
          left = omega (arith, left, was);
          inside = All-drop (λ doc. doc < file_docs (file_at view.files cursor.part)) n leaves.rest leaves.inside;
          order = leaves.order;
          within = leaves.within;
          docs_are = refl;
        },
        given_parted leaves.rest block n same room (base_of view.files cursor.part) raised behind (lifted ∙ ap (λ b. map (λ d. b + d) (take n block)) base_is)
            ∙ sym leaves.docs_are,
      )

  none_left : cursor.left ≤ 0 → docs ≡ pieces_docs view.files (slice_range view.pieces cursor.next cursor.end)
  none_left over =
      let was = leaves.left in
      let empty : leaves.rest ≡ [] = nil_from_length leaves.rest (omega (arith, was, over)) in
      leaves.docs_are ∙ ap (λ (l : List ℕ). map (λ d. base_of view.files cursor.part + d) l ++ pieces_docs view.files (slice_range view.pieces cursor.next cursor.end)) empty

  -- behind the last part segment
  pub over_is : cursor.left ≤ 0 → cursor.end ≤ cursor.next → docs ≡ []
  over_is over last = none_left over ∙ ap (pieces_docs view.files) (range_none view.pieces cursor.next cursor.end last)

  pub turns : (next : ShardCursor) → cursor.left ≤ 0 → Leaves view next (pieces_docs view.files (slice_range view.pieces cursor.next cursor.end)) → Leaves view next docs
  turns next over here = subst (Leaves view next) (sym (none_left over)) here
