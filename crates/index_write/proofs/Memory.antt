-- An index in memory, seen from its table of heads.
use Rattle.shared_lemmas.proofs.Common.{suc, append-nil, flat_map-append, map-append, take-suc, add-one, append_assoc, ◌≡◌, ℕ, ◌+◌, ◌*◌, ◌^◌, ◌<◌, ◌≤◌, List, [], ◌∷◌, ◌++◌, length, map, take, drop, get_or, All, ap, sym, subst, ◌∙◌, refl, arith, take-append_seam, drop-append_seam, length-map, length-append, get_or-map, take-map, drop-map}
use Rattle.shared_lemmas.proofs.Common.{sum_by-cons}
use Rattle.std.specs.List.{sum_by}
use Rattle.std.proofs.Math.Seq.{drop-cons}
use Rattle.index_write.proofs.Below.{AreDocs, Segment, TermSegments, ImpactIndex, SegmentData, IsSegment, IsTerm, IsIndex, segment_data, term_data, index_data, u32_bytes, HeadData, TermHeads, rest_behind, shared_with, term_bytes, heads_bytes, terms_bytes, term_postings}
use Rattle.shared_lemmas.proofs.Lists.{All-unmap}
use Rattle.index_write.specs.Chosen.{head_data, chosen_head, chosen_heads, chosen_terms, chosen_payload, chosen_payloads, table_payloads}
use Rattle.index_write.specs.Private.Table.{table_of}
use Rattle.index_write.specs.declared.head.PayloadHead.{PayloadHead}
use Rattle.index_write.proofs.Bounds.{one_size, term_segments_few}

pub segments_have_docs : (index : ImpactIndex) → IsIndex (index_data index) → All (λ (t : TermSegments). All (λ (s : Segment). AreDocs (length index.names) s.docs) t.segments) index.terms
segments_have_docs index is =
    let d = length index.names in
    let terms : All (λ (t : TermSegments). IsTerm d (term_data t)) index.terms = All-unmap (IsTerm d) term_data index.terms is.terms in
    λ i t inside. λ j s within. (All-unmap (IsSegment d) segment_data (get_or index.terms i t).segments (terms i t inside).segments j s within).docs

pub few_segments : (index : ImpactIndex) → IsIndex (index_data index) → All (λ (t : TermSegments). length t.segments ≤ 2 ^ 26) index.terms
few_segments index is =
    let d = length index.names in
    let terms : All (λ (t : TermSegments). IsTerm d (term_data t)) index.terms = All-unmap (IsTerm d) term_data index.terms is.terms in
    let small = is.few_names in
    λ i t inside. (let e = term_segments_few d (term_data (get_or index.terms i t)) (terms i t inside) in omega (arith, e, small, length-map (get_or index.terms i t).segments segment_data))

-- the item at a place, and what follows it
pub next_at : {X : Type 0} (items xs : List X) (i : ℕ) (x : X) → items ≡ xs → i < length items → x ≡ get_or items i x → drop i xs ≡ x ∷ drop (i + 1) xs
next_at items xs i x same inside is =
    sym (ap (drop i) same) ∙ drop-cons items i x inside ∙ ap (λ y. y ∷ drop (suc i) items) (sym is) ∙ ap (λ n. x ∷ drop n items) (sym (add-one i)) ∙ ap (λ ys. x ∷ drop (i + 1) ys) same

pub prefix_of_nothing : (xs : List ℕ) → shared_with xs [] ≡ 0
prefix_of_nothing [] = refl
prefix_of_nothing (x ∷ xs) = refl

-- the bytes of the terms from one on
pub terms_next : (d : ℕ) (before : List ℕ) (t : TermSegments) (from rest : List TermSegments) → from ≡ t ∷ rest
    → terms_bytes before (chosen_terms d (map term_data from))
    ≡ (term_bytes before t.term ++ (u32_bytes (length (chosen_heads d (map segment_data t.segments))) ++ heads_bytes (chosen_heads d (map segment_data t.segments)))) ++ terms_bytes t.term (chosen_terms d (map term_data rest))
terms_next d before t from rest is = ap (λ ts. terms_bytes before (chosen_terms d (map term_data ts))) is

pub heads_count : (d : ℕ) (segments : List Segment) → length (chosen_heads d (map segment_data segments)) ≡ length segments
heads_count d segments = length-map (map segment_data segments) (chosen_head d) ∙ length-map segments segment_data

pub terms_next_size : (d : ℕ) (before : List ℕ) (t : TermSegments) (from rest : List TermSegments) → from ≡ t ∷ rest
    → length (terms_bytes before (chosen_terms d (map term_data from))) ≡ 8 + length (rest_behind before t.term) + 11 * length t.segments + length (terms_bytes t.term (chosen_terms d (map term_data rest)))
terms_next_size d before t from rest is =
    let first : TermHeads = record { term = t.term; heads = chosen_heads d (map segment_data t.segments) } in
    ap length (terms_next d before t from rest is) ∙ one_size before first (terms_bytes t.term (chosen_terms d (map term_data rest))) (length t.segments) (heads_count d t.segments)

pub table_next : (d : ℕ) (t : TermSegments) (from rest : List TermSegments) → from ≡ t ∷ rest
    → table_of d (map term_data from) ≡ chosen_heads d (map segment_data t.segments) ++ table_of d (map term_data rest)
table_next d t from rest is = ap (λ ts. table_of d (map term_data ts)) is

-- the heads of a term, and those of the terms behind it
pub heads_here : (n : ℕ) (left : List PayloadHead) (xs ys : List HeadData) → map head_data left ≡ xs ++ ys → length xs ≡ n → map head_data (take n left) ≡ xs
heads_here n left xs ys is count = sym (take-map head_data n left) ∙ ap (take n) is ∙ ap (λ n. take n (xs ++ ys)) (sym count) ∙ take-append_seam xs ys

pub heads_behind : (n : ℕ) (left : List PayloadHead) (xs ys : List HeadData) → map head_data left ≡ xs ++ ys → length xs ≡ n → map head_data (drop n left) ≡ ys
heads_behind n left xs ys is count = sym (drop-map head_data n left) ∙ ap (drop n) is ∙ ap (λ n. drop n (xs ++ ys)) (sym count) ∙ drop-append_seam xs ys

pub heads_reach : (n : ℕ) (left : List PayloadHead) (xs ys : List HeadData) → map head_data left ≡ xs ++ ys → length xs ≡ n → n ≤ length left
heads_reach n left xs ys is count = omega (arith, count, ap length is, length-map left head_data, length-append xs ys)

-- an entry with its heads
pub entry_is : (term : List ℕ) (here : List PayloadHead) (mine : List HeadData) → map head_data here ≡ mine → term ++ (u32_bytes (length here) ++ heads_bytes (map head_data here)) ≡ term ++ (u32_bytes (length mine) ++ heads_bytes mine)
entry_is term here mine is = ap (λ n. term ++ (u32_bytes n ++ heads_bytes (map head_data here))) (sym (length-map here head_data)) ∙ ap (λ hs. term ++ (u32_bytes (length hs) ++ heads_bytes hs)) is

-- one part more of a text
pub text_turn : (out new part from after whole : List ℕ) → new ≡ out ++ part → from ≡ part ++ after → out ++ from ≡ whole → new ++ after ≡ whole
text_turn out new part from after whole is split all = ap (λ xs. xs ++ after) is ∙ append_assoc out part after ∙ ap (λ xs. out ++ xs) (sym split) ∙ all

-- P holds of the item at a place
pub holds_here : {X : Type 0} (P : X → Type 0) (items xs : List X) (i : ℕ) (x : X) → items ≡ xs → i < length items → x ≡ get_or items i x → All P xs → P x
holds_here P items xs i x same inside is all = subst P (ap (λ ys. get_or ys i x) (sym same) ∙ sym is) (all i x (omega (arith, inside, ap length same)))

-- sums over the table
pub sizes_map : (heads : List PayloadHead) → sum_by (λ (h : PayloadHead). h.bytes) heads ≡ sum_by (λ (h : HeadData). h.size) (map head_data heads)
sizes_map [] = refl
sizes_map (h ∷ heads) = sum_by-cons (λ (h : PayloadHead). h.bytes) h heads ∙ ap (λ n. h.bytes + n) (sizes_map heads) ∙ sym (sum_by-cons (λ (h : HeadData). h.size) (head_data h) (map head_data heads))

-- the head at a place is that of the segment there
pub head_at : (d : ℕ) (heads : List PayloadHead) (segments : List Segment) (i : ℕ) (h : PayloadHead) (s : Segment) → map head_data heads ≡ chosen_heads d (map segment_data segments) → i < length segments → s ≡ get_or segments i s
    → head_data (get_or heads i h) ≡ chosen_head d (segment_data s)
head_at d heads segments i h s same inside is =
    let count = ap length same in
    let few : i < length heads = omega (arith, inside, count, length-map heads head_data, heads_count d segments) in
    sym (get_or-map head_data heads i h (head_data h) few) ∙ ap (λ hs. get_or hs i (head_data h)) same
    ∙ get_or-map (chosen_head d) (map segment_data segments) i (segment_data s) (head_data h) (omega (arith, inside, length-map segments segment_data))
    ∙ ap (chosen_head d) (get_or-map segment_data segments i s (segment_data s) inside ∙ ap segment_data (sym is))

pub payloads_next : (d : ℕ) (t : TermSegments) (from rest : List TermSegments) → from ≡ t ∷ rest
    → table_payloads d (map term_data from) ≡ chosen_payloads d (map segment_data t.segments) ++ table_payloads d (map term_data rest)
payloads_next d t from rest is = ap (λ ts. table_payloads d (map term_data ts)) is

-- the payloads of the first segments, and of one more
pub payloads_more : (d : ℕ) (segments : List Segment) (i : ℕ) (s : Segment) → i < length segments → s ≡ get_or segments i s
    → chosen_payloads d (map segment_data (take (i + 1) segments)) ≡ chosen_payloads d (map segment_data (take i segments)) ++ chosen_payload d (segment_data s)
payloads_more d segments i s low is =
    let first = take i segments in
    ap (λ (n : ℕ). chosen_payloads d (map segment_data (take n segments))) (add-one i) ∙ ap (λ (ss : List Segment). chosen_payloads d (map segment_data ss)) (take-suc segments i s low)
    ∙ ap (λ (x : Segment). chosen_payloads d (map segment_data (first ++ x ∷ []))) (sym is) ∙ ap (λ (ss : List SegmentData). chosen_payloads d ss) (map-append segment_data first (s ∷ []))
    ∙ flat_map-append (chosen_payload d) (map segment_data first) (segment_data s ∷ [])
    ∙ ap (λ (xs : List ℕ). chosen_payloads d (map segment_data first) ++ xs) (append-nil (chosen_payload d (segment_data s)))

-- the postings of an index in memory
segments_counted : (segments : List Segment) → sum_by (λ (s : Segment). length s.docs) segments ≡ sum_by (λ (s : SegmentData). length s.docs) (map segment_data segments)
segments_counted [] = refl
segments_counted (s ∷ segments) =
    sum_by-cons (λ (s : Segment). length s.docs) s segments ∙ ap (λ n. length s.docs + n) (segments_counted segments) ∙ sym (sum_by-cons (λ (s : SegmentData). length s.docs) (segment_data s) (map segment_data segments))

pub terms_counted : (terms : List TermSegments) → sum_by (λ (t : TermSegments). sum_by (λ (s : Segment). length s.docs) t.segments) terms ≡ sum_by term_postings (map term_data terms)
terms_counted [] = refl
terms_counted (t ∷ terms) =
    sum_by-cons (λ (t : TermSegments). sum_by (λ (s : Segment). length s.docs) t.segments) t terms
    ∙ ap (λ n. n + sum_by (λ (t : TermSegments). sum_by (λ (s : Segment). length s.docs) t.segments) terms) (segments_counted t.segments)
    ∙ ap (λ n. term_postings (term_data t) + n) (terms_counted terms)
    ∙ sym (sum_by-cons term_postings (term_data t) (map term_data terms))
