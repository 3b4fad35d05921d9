-- No file of an index is shorter than the text of the index.
use Rattle.shared_lemmas.proofs.Common.{◌≡◌, ℕ, ◌+◌, ◌*◌, ◌≤◌, List, [], ◌∷◌, ◌++◌, length, map, refl, arith, length-append, length-map, sum_by, sum_by-cons, sum_by-append}
use Rattle.segment_codecs.specs.Codecs.{chosen_codec, payload_size}
use Rattle.segment_codecs.specs.declared.codec.Codec.{Codec}
use Rattle.jass_top.proofs.Below.{FileView, SegmentData, TermData, chosen_view, file_bytes}
use Rattle.index_layout.specs.Bytes.{u32_bytes}
use Rattle.index_layout.specs.Heads.{HeadData, all_heads, head_of, heads_of, payloads_size, terms_heads}
use Rattle.index_layout.specs.Layout.{file_length, heads_bytes, term_bytes, terms_bytes}
use Rattle.index_layout.specs.View.{HaveCodecs, chosen_codecs, index_text, view_heads}
use Rattle.index_layout.proofs.PayloadLaws.{first_codecs, heads_count}
use Rattle.index_layout.proofs.TermLaws.{heads_size}

abbrev size_of : HeadData → ℕ
size_of h = h.size

abbrev chosen_for : ℕ → List SegmentData → List Codec
chosen_for d segments = map (λ (s : SegmentData). chosen_codec d s.docs) segments

chosen_count : (d : ℕ) (segments : List SegmentData) → length (chosen_for d segments) ≡ length segments
chosen_count d segments = length-map segments (λ (s : SegmentData). chosen_codec d s.docs)

module _ (shortest : (d : ℕ) (docs : List ℕ) (codec : Codec) → payload_size d docs (chosen_codec d docs) ≤ payload_size d docs codec) (d : ℕ) where
  segments_short : (segments : List SegmentData) (codecs : List Codec) → length codecs ≡ length segments → sum_by size_of (heads_of d segments (chosen_for d segments)) ≤ sum_by size_of (heads_of d segments codecs)
  segments_short [] codecs same = omega arith
  segments_short (s ∷ segments) [] same = absurd (omega (arith, same))
  segments_short (s ∷ segments) (codec ∷ codecs) same =
      let chosen = sum_by-cons size_of (head_of d s (chosen_codec d s.docs)) (heads_of d segments (chosen_for d segments)) in
      let other = sum_by-cons size_of (head_of d s codec) (heads_of d segments codecs) in
      let first = shortest d s.docs codec in
      let rest = segments_short segments codecs (omega (arith, same)) in
      omega (arith, chosen, other, first, rest)

  payloads_short : (terms : List TermData) (codecs : List (List Codec)) → HaveCodecs terms codecs → payloads_size (terms_heads d terms (chosen_codecs d terms)) ≤ payloads_size (terms_heads d terms codecs)
  payloads_short [] codecs have = omega arith
  payloads_short (t ∷ terms) [] have = absurd cc
  payloads_short (t ∷ terms) (here ∷ codecs) have =
      let both = first_codecs t terms here codecs have in
      let chosen = sum_by-append size_of (heads_of d t.segments (chosen_for d t.segments)) (all_heads (terms_heads d terms (chosen_codecs d terms))) in
      let other = sum_by-append size_of (heads_of d t.segments here) (all_heads (terms_heads d terms codecs)) in
      let first = segments_short t.segments here both.0 in
      let rest = payloads_short terms codecs both.1 in
      omega (arith, chosen, other, first, rest)

  -- a term and so many heads
  term_size : (before term : List ℕ) (heads : List HeadData) (rest : List ℕ)
      → length ((term_bytes before term ++ (u32_bytes (length heads) ++ heads_bytes heads)) ++ rest) ≡ length (term_bytes before term) + 4 + 11 * length heads + length rest
  term_size before term heads rest =
      let whole = length-append (term_bytes before term ++ (u32_bytes (length heads) ++ heads_bytes heads)) rest in
      let front = length-append (term_bytes before term) (u32_bytes (length heads) ++ heads_bytes heads) in
      let behind = length-append (u32_bytes (length heads)) (heads_bytes heads) in
      let four : length (u32_bytes (length heads)) ≡ 4 = refl in
      let sizes = heads_size heads in
      omega (arith, whole, front, behind, four, sizes)

  terms_as_long : (before : List ℕ) (terms : List TermData) (codecs : List (List Codec)) → HaveCodecs terms codecs → length (terms_bytes before (terms_heads d terms (chosen_codecs d terms))) ≡ length (terms_bytes before (terms_heads d terms codecs))
  terms_as_long before [] codecs have = refl
  terms_as_long before (t ∷ terms) [] have = absurd cc
  terms_as_long before (t ∷ terms) (here ∷ codecs) have =
      let both = first_codecs t terms here codecs have in
      let chosen = term_size before t.term (heads_of d t.segments (chosen_for d t.segments)) (terms_bytes t.term (terms_heads d terms (chosen_codecs d terms))) in
      let other = term_size before t.term (heads_of d t.segments here) (terms_bytes t.term (terms_heads d terms codecs)) in
      let chosen_many = heads_count d t.segments (chosen_for d t.segments) (chosen_count d t.segments) in
      let other_many = heads_count d t.segments here both.0 in
      let rest = terms_as_long t.term terms codecs both.1 in
      omega (arith, chosen, other, chosen_many, other_many, rest)

pub text_is_short : ((d : ℕ) (docs : List ℕ) (codec : Codec) → payload_size d docs (chosen_codec d docs) ≤ payload_size d docs codec) → ((v : FileView) → length (file_bytes v) ≡ file_length v.index.names (view_heads v))
    → (v : FileView) → HaveCodecs v.index.terms v.codecs → length (index_text v.index) ≤ length (file_bytes v)
unfolding index_text view_heads
text_is_short shortest known v have =
    let d : ℕ = length v.index.names in
    let text = known (chosen_view v.index) in
    let file = known v in
    let payloads = payloads_short shortest d v.index.terms v.codecs have in
    let terms = terms_as_long shortest d [] v.index.terms v.codecs have in
    omega (arith, text, file, payloads, terms)
