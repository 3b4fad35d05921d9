-- What an opened file's tables tell of its view.
use Rattle.shared_lemmas.proofs.Common.{◌≡◌, ◌<◌, ◌≤◌, ◌+◌, ◌-◌, ◌*◌, ◌/◌, ◌%◌, ◌^◌, ℕ, zero, suc, List, [], ◌∷◌, ◌++◌, length, map, drop, Some, All, ap, sym, subst, ◌∙◌, refl, slice_get, slice_index, slice_index_or, arith, slice_range, length-map, length-take, length-append, drop-drop, get_or-map}
use Rattle.shared_lemmas.proofs.Common.{slice_get-get_or, IsUtf8-from_is_utf8}
use Rattle.std.specs.Prelude.{flat_map, IsUtf8}
use Rattle.index_file.proofs.Below.{AreDocs, IsText, payload_of, SegmentData, TermData, IsSegment, IsTerm, Codec, Varbyte, segments_at, name_in, greatest_in, index_greatest, head_codecs, FileView, IsFileView, HeadData}
use Rattle.index_layout.specs.Layout.{front_bytes}
use Rattle.index_layout.specs.View.{file_bytes, view_heads, view_payloads}
use Rattle.segment_codecs.specs.Codecs.{payload_size}
use Rattle.index_file.specs.declared.segment_head.SegmentHead.{SegmentHead}
use Rattle.index_file.specs.declared.term_row.TermRow.{TermRow}
use Rattle.index_file.specs.declared.term_table.TermTable.{TermTable}
use Rattle.index_file.specs.Private.Opened.{Stands}
use Rattle.index_file.specs.Private.Payloads.{IsPlaced, first_payload, payload_place, row_terms, segment_in, segments_from, term_between}
use Rattle.index_file.specs.Parts.{told, IsPayloadAt}
use Rattle.index_file.specs.Places.{term_at, segment_at, codec_at}
use Rattle.index_file.specs.Private.Tables.{head_at, heads_between, row_at, row_heads}
use Rattle.index_file.proofs.HeadLists.{part_length, part_place, part_there, places_join, segment_from, segments_length}
use Rattle.index_file.proofs.RowOrder.{InOrder, rows_in_order}

abbrev term_of : List TermData → ℕ → TermData
term_of terms t = slice_index_or terms t (record { term = []; segments = [] })

term_there : (payloads : List ℕ) (d : ℕ) (heads : List HeadData) (text groups : List ℕ) (rows : List TermRow) (t : ℕ) → suc t < length rows
    → term_of (row_terms payloads d heads text groups rows) t ≡ term_between payloads d heads text groups (row_at rows t) (row_at rows (suc t))
term_there payloads d heads text groups [] t inside = absurd (omega (arith, inside))
term_there payloads d heads text groups (a ∷ []) t inside = absurd (omega (arith, inside))
term_there payloads d heads text groups (a ∷ b ∷ rows) zero inside = refl
term_there payloads d heads text groups (a ∷ b ∷ rows) (suc t) inside = term_there payloads d heads text groups (b ∷ rows) t (omega (arith, inside))

-- the heads of the term with a number
abbrev pub its_heads : TermTable → ℕ → List HeadData
its_heads terms t = heads_between terms.heads (row_at terms.rows t) (row_at terms.rows (t + 1))

-- what is known of the term with a number
pub record TermThere (terms : TermTable) (groups payloads : List ℕ) (v : FileView) (t : ℕ) : Type 0 where
  pub order : InOrder terms.heads terms.text (row_at terms.rows t) (row_at terms.rows (t + 1))
  pub term : term_at v.index.terms t ≡ slice_range terms.text (row_at terms.rows t).text (row_at terms.rows (t + 1)).text
  pub its_segments : segments_at v.index.terms t
      ≡ segments_from payloads (length v.index.names) (its_heads terms t) (first_payload groups (row_at terms.rows t))
  pub placed : IsPlaced payloads (length v.index.names) groups (row_at terms.rows t) (its_heads terms t)

module _ (front places : List ℕ) (terms : TermTable) (groups payloads : List ℕ) (v : FileView) (stands : Stands front places terms groups payloads v) (t : ℕ) (inside : t < length v.index.terms) where
  abbrev d : ℕ
  d = length v.index.names

  abbrev row : TermRow
  row = row_at terms.rows t

  pub row_inside : t + 1 < length terms.rows
  row_inside = omega (arith, inside, stands.count)

  pub there : TermThere terms groups payloads v t
  there =
      let next : suc t ≡ t + 1 = omega arith in
      let is = ap (λ (all : List TermData). term_of all t) stands.terms_are
      ∙ term_there payloads d terms.heads terms.text groups terms.rows t (omega (arith, row_inside))
      ∙ ap (λ i. term_between payloads d terms.heads terms.text groups row (row_at terms.rows i)) next in
      record {
        order = rows_in_order terms.heads terms.text terms.rows t stands.rows row_inside;
        term = ap (λ (x : TermData). x.term) is;
        its_segments = ap (λ (x : TermData). x.segments) is;
        placed = stands.placed t row_inside;
      }

  pub heads_count : length (its_heads terms t) ≡ (row_at terms.rows (t + 1)).head - row.head
  heads_count =
      let order = there.order in
      part_length terms.heads row.head (row_at terms.rows (t + 1)).head (omega (arith, order.heads_rise)) order.heads_within

  pub segments_count : (row_at terms.rows (t + 1)).head - row.head ≡ length (segments_at v.index.terms t)
  segments_count = sym (ap (λ (s : List SegmentData). length s) there.its_segments
      ∙ segments_length payloads d (its_heads terms t) (first_payload groups row) ∙ heads_count)

-- what a head and a place tell of a segment
pub record Tells (v : FileView) (h : HeadData) (place : ℕ) (x : SegmentData) : Type 0 where
  pub impact : h.impact ≡ x.impact
  pub count : h.count ≡ length x.docs
  pub within : place + h.size ≤ length (view_payloads v)
  pub docs : AreDocs (length v.index.names) x.docs
  pub spelled : slice_range (view_payloads v) place (place + h.size) ≡ payload_of h.codec (length v.index.names) x.docs

payload_tells : (payloads : List ℕ) (v : FileView) (h : HeadData) (place : ℕ) → payloads ≡ view_payloads v → IsPayloadAt payloads (length v.index.names) h place
    → Tells v h place (segment_in payloads (length v.index.names) h place)
unfolding segment_in
payload_tells payloads v h place same is = record {
  impact = refl;
  count = sym is.count;
  within = subst (λ (all : List ℕ). place + h.size ≤ length all) same is.within;
  docs = is.docs;
  spelled = ap (λ (all : List ℕ). slice_range all place (place + h.size)) (sym same) ∙ is.spelled;
}

abbrev head_codec : HeadData → Codec
head_codec h = h.codec

-- the codecs of the term with a number
codecs_there : (heads : List HeadData) (text : List ℕ) (rows : List TermRow) (t : ℕ) → suc t < length rows
    → slice_index_or (head_codecs (row_heads heads text rows)) t [] ≡ map head_codec (heads_between heads (row_at rows t) (row_at rows (suc t)))
codecs_there heads text [] t inside = absurd (omega (arith, inside))
codecs_there heads text (a ∷ []) t inside = absurd (omega (arith, inside))
codecs_there heads text (a ∷ b ∷ rows) zero inside = refl
codecs_there heads text (a ∷ b ∷ rows) (suc t) inside = codecs_there heads text (b ∷ rows) t (omega (arith, inside))

-- the payloads are the end of a file
payloads_within : (v : FileView) → length (view_payloads v) ≤ length (file_bytes v)
unfolding file_bytes
payloads_within v = (let all = length-append (front_bytes v.index.names (view_heads v)) (view_payloads v) in omega (arith, all))

-- the segment with a number: its head, the place of its payload, and the group that the payload is in
module _ (front places : List ℕ) (terms : TermTable) (groups payloads : List ℕ) (v : FileView) (stands : Stands front places terms groups payloads v)
    (t s : ℕ) (below : t < length v.index.terms) (inside : s < length (segments_at v.index.terms t)) where
  abbrev its_row : TermRow
  its_row = row_at terms.rows t

  abbrev next_row : TermRow
  next_row = row_at terms.rows (t + 1)

  abbrev first_place : ℕ
  first_place = first_payload groups its_row

  abbrev pub segment_place : ℕ
  segment_place = payload_place (its_heads terms t) first_place s

  known : TermThere terms groups payloads v t
  known = there front places terms groups payloads v stands t below

  pub head_inside : s < next_row.head - its_row.head
  head_inside = omega (arith, inside, segments_count front places terms groups payloads v stands t below)

  head_counted : s < length (its_heads terms t)
  head_counted = omega (arith, head_inside, heads_count front places terms groups payloads v stands t below)

  pub head_within : its_row.head + s < length terms.heads
  head_within = (let order = known.order in omega (arith, head_inside, order.heads_within))

  pub head_here : head_at (its_heads terms t) s ≡ head_at terms.heads (its_row.head + s)
  head_here = part_there terms.heads its_row.head next_row.head s head_inside

  pub segment_tells : Tells v (head_at terms.heads (its_row.head + s)) segment_place (segment_at v.index.terms t s)
  segment_tells =
      let none : SegmentData = record { impact = 0; docs = [] } in
      let is = ap (λ (here : List SegmentData). slice_index_or here s none) known.its_segments
      ∙ segment_from payloads (length v.index.names) (its_heads terms t) first_place s none head_counted in
      subst (λ (h : HeadData). Tells v h segment_place (segment_at v.index.terms t s)) head_here
      (subst (Tells v (head_at (its_heads terms t) s) segment_place) (sym is)
      (payload_tells payloads v (head_at (its_heads terms t) s) segment_place stands.payloads_are (known.placed.payloads s head_counted)))

  -- the same of a head that was read, and of a place that was found
  pub read_tells : (h : SegmentHead) (at : ℕ) → told h ≡ head_at terms.heads (its_row.head + s) → at ≡ segment_place → Tells v (told h) at (segment_at v.index.terms t s)
  read_tells h at read found =
      subst (λ at. Tells v (told h) at (segment_at v.index.terms t s)) (sym found)
      (subst (λ h. Tells v h segment_place (segment_at v.index.terms t s)) (sym read) segment_tells)

  -- a payload has a byte or more, so that even the last begins within 32 bits
  pub place_small : ((codec : Codec) (d : ℕ) (docs : List ℕ) → AreDocs d docs → 1 ≤ payload_size d docs codec) → segment_place < 2 ^ 32
  place_small some =
      let tells = segment_tells in
      let h = head_at terms.heads (its_row.head + s) in
      let docs = (segment_at v.index.terms t s).docs in
      let size : segment_place + h.size - segment_place ≡ h.size = omega arith in
      let least = some h.codec (length v.index.names) docs tells.docs in
      let most = length-take (segment_place + h.size - segment_place) (drop segment_place (view_payloads v)) in
      omega (arith, size, least, most, ap (λ (xs : List ℕ). length xs) tells.spelled, tells.within, payloads_within v, stands.view.fits)

  pub group_inside : its_row.group + s / 4 < length groups
  group_inside = omega (arith, head_counted, known.placed.inside)

  pub place_told : payload_place (drop (its_row.head + s - s % 4) terms.heads) (slice_index groups (its_row.group + s / 4)) (s % 4) ≡ segment_place
  place_told =
      let heads = drop its_row.head terms.heads in
      let start : 4 * (s / 4) ≡ s - s % 4 = omega arith in
      let all : s - s % 4 + s % 4 ≡ s = omega arith in
      let from : its_row.head + s - s % 4 ≡ its_row.head + (s - s % 4) = omega arith in
      let few : s / 4 < (length (its_heads terms t) + 3) / 4 = omega (arith, head_counted) in
      let group = known.placed.told (s / 4) few ∙ ap (payload_place (its_heads terms t) first_place) start
      ∙ part_place terms.heads its_row.head next_row.head first_place (s - s % 4) (omega (arith, head_inside)) in
      ap (λ i. payload_place (drop i terms.heads) (slice_index groups (its_row.group + s / 4)) (s % 4)) from
      ∙ ap (λ (left : List HeadData). payload_place left (slice_index groups (its_row.group + s / 4)) (s % 4)) (sym (drop-drop (s - s % 4) its_row.head terms.heads))
      ∙ ap (λ at. payload_place (drop (s - s % 4) heads) at (s % 4)) group
      ∙ places_join heads first_place (s - s % 4) (s % 4)
      ∙ ap (payload_place heads first_place) all
      ∙ sym (part_place terms.heads its_row.head next_row.head first_place s (omega (arith, head_inside)))

  -- the head of a segment tells its codec
  pub codec_there : (head_at terms.heads (its_row.head + s)).codec ≡ codec_at v.codecs t s
  codec_there =
      let next : suc t ≡ t + 1 = omega arith in
      let row = row_inside front places terms groups payloads v stands t below in
      let its = codecs_there terms.heads terms.text terms.rows t (omega (arith, row))
      ∙ ap (λ i. map head_codec (heads_between terms.heads its_row (row_at terms.rows i))) next in
      sym (ap (λ (codecs : List (List Codec)). codec_at codecs t s) stands.codecs
      ∙ ap (λ (here : List Codec). slice_index_or here s Varbyte) its
      ∙ get_or-map head_codec (its_heads terms t) s (head_at [] 0) Varbyte head_counted
      ∙ ap head_codec head_here)

-- terms are text
pub term_text : (v : FileView) → IsFileView v → (t : ℕ) → t < length v.index.terms → IsUtf8 (term_at v.index.terms t)
term_text v is t inside = IsUtf8-from_is_utf8 (term_at v.index.terms t) (is.index.terms t (record { term = []; segments = [] }) inside).text

-- names
pub place_within : (front places : List ℕ) (terms : TermTable) (groups payloads : List ℕ) (v : FileView) → Stands front places terms groups payloads v → (doc : ℕ) → doc < length v.index.names → doc < length places
place_within front places terms groups payloads v s doc below = let n = ap length s.names ∙ length-map places (name_in front) in omega (arith, below, n)

pub name_there : (front places : List ℕ) (terms : TermTable) (groups payloads : List ℕ) (v : FileView) → Stands front places terms groups payloads v → (doc : ℕ) → doc < length v.index.names → slice_get v.index.names doc ≡ Some (name_in front (slice_index places doc))
name_there front places terms groups payloads v s doc below =
    ap (λ (names : List (List ℕ)). slice_get names doc) s.names
    ∙ slice_get-get_or (map (name_in front) places) doc [] (subst (λ n. doc < n) (ap length s.names) below)
    ∙ ap Some (get_or-map (name_in front) places doc 0 [] (place_within front places terms groups payloads v s doc below))

pub name_text : (front places : List ℕ) (terms : TermTable) (groups payloads : List ℕ) (v : FileView) → Stands front places terms groups payloads v → (doc : ℕ) → doc < length v.index.names → IsUtf8 (name_in front (slice_index places doc))
name_text front places terms groups payloads v s doc below =
    IsUtf8-from_is_utf8 (name_in front (slice_index places doc))
    (subst IsText (ap (λ (names : List (List ℕ)). slice_index_or names doc []) s.names ∙ get_or-map (name_in front) places doc 0 [] (place_within front places terms groups payloads v s doc below)) (s.view.index.names_are_text doc [] below))

-- impacts have 16 bits
small_in : (d : ℕ) (segments : List SegmentData) → All (IsSegment d) segments → greatest_in segments ≤ 65535
small_in d [] are = omega arith
small_in d (s ∷ segments) are =
    let first = (are 0 s (omega arith)).impact.1 in
    let later = small_in d segments (λ i x inside. are (suc i) x (omega (arith, inside))) in
    omega (arith, first, later)

greatest_append : (xs ys : List SegmentData) (m : ℕ) → greatest_in xs ≤ m → greatest_in ys ≤ m → greatest_in (xs ++ ys) ≤ m
greatest_append [] ys m one two = two
greatest_append (x ∷ xs) ys m one two =
    let later = greatest_append xs ys m (omega (arith, one)) two in
    omega (arith, one, later)

small_terms : (d : ℕ) (terms : List TermData) → All (IsTerm d) terms → greatest_in (flat_map (λ (t : TermData). t.segments) terms) ≤ 65535
small_terms d [] are = omega arith
small_terms d (t ∷ terms) are =
    greatest_append t.segments (flat_map (λ (t : TermData). t.segments) terms) 65535
    (small_in d t.segments (are 0 t (omega arith)).segments)
    (small_terms d terms (λ i x inside. are (suc i) x (omega (arith, inside))))

pub greatest_small : (v : FileView) → IsFileView v → index_greatest v.index ≤ 65535
greatest_small v is = small_terms (length v.index.names) v.index.terms is.index.terms
