-- The parts of an index file fit 64 bits.
use Rattle.shared_lemmas.proofs.Common.{◌≡◌, ℕ, ◌+◌, ◌*◌, ◌≤◌, ◌^◌, List, [], ◌∷◌, ◌++◌, length, All, refl, arith, slice_index_or, sum_by, length-append, length-drop, length-map, All-head, All-tail, sum_by-cons, sum_by-le}
use Rattle.index_write.proofs.Below.{AreDocs, IsName, chosen_codec, payload_size, SegmentData, TermData, IndexData, IsSegment, IsTerm, IsIndex, u32_bytes, TermHeads, names_bytes, heads_bytes, rest_behind, shared_with, terms_bytes, term_postings, index_postings, heads_size}
use Rattle.index_layout.specs.Layout.{name_bytes, term_bytes, totals_bytes, front_bytes}
use Rattle.index_write.specs.Chosen.{chosen_head, chosen_heads, chosen_terms, chosen_payload, chosen_payloads, table_payloads}
use Rattle.index_write.proofs.Counting.{term_few}
use Rattle.index_write.proofs.Texts.{docs_of}

-- the chosen payload has at most four bytes for each document
abbrev pub Few : Type 0
Few = (d : ℕ) (docs : List ℕ) → AreDocs d docs → payload_size d docs (chosen_codec d docs) ≤ 4 * length docs

pub index_few : (index : IndexData) → IsIndex index → index_postings index ≤ 2 ^ 50
index_few index is =
    let each : All (λ (t : TermData). term_postings t ≤ 67108864) index.terms = λ i t inside. (let e = term_few (length index.names) (slice_index_or index.terms i t) (is.terms i t inside) in let f = is.few_names in omega (arith, e, f)) in
    let all = sum_by-le term_postings 67108864 index.terms each in
    omega (arith, all, is.few_terms)

pub name_size : (name : List ℕ) → length (name_bytes name) ≡ 4 + length name
unfolding name_bytes
name_size name = omega arith

pub names_small : (names : List (List ℕ)) → All IsName names → length (names_bytes names) ≤ 1048580 * length names
names_small [] are = omega arith
names_small (name ∷ names) are =
    let first = (All-head IsName name names are).fits in
    omega (arith, first, length-append (name_bytes name) (names_bytes names), name_size name, names_small names (All-tail IsName name names are))

pub term_size : (before term : List ℕ) → length (term_bytes before term) ≡ 4 + length (rest_behind before term)
unfolding term_bytes
term_size before term = omega arith

segments_few : (d : ℕ) (segments : List SegmentData) → All (IsSegment d) segments → length segments ≤ sum_by docs_of segments
segments_few d [] are = omega arith
segments_few d (s ∷ segments) are =
    let some = (All-head (IsSegment d) s segments are).docs.some in
    omega (arith, some, sum_by-cons docs_of s segments, segments_few d segments (All-tail (IsSegment d) s segments are))

pub term_segments_few : (d : ℕ) (t : TermData) → IsTerm d t → length t.segments ≤ d
term_segments_few d t is = omega (arith, term_few d t is, segments_few d t.segments is.segments)

one_small : (d : ℕ) (before : List ℕ) (t : TermData) → d ≤ 2 ^ 26 → IsTerm d t → 4 + length (rest_behind before t.term) + 4 + 11 * length t.segments ≤ 2 ^ 30
one_small d before t small is =
    omega (arith, is.fits, small, term_few d t is, segments_few d t.segments is.segments, length-drop (shared_with before t.term) t.term)

-- the bytes of a term and its heads
pub one_size : (before : List ℕ) (t : TermHeads) (rest : List ℕ) (heads : ℕ) → length t.heads ≡ heads
    → length ((term_bytes before t.term ++ (u32_bytes (length t.heads) ++ heads_bytes t.heads)) ++ rest) ≡ 8 + length (rest_behind before t.term) + 11 * heads + length rest
one_size before t rest heads same =
    let here = term_bytes before t.term in
    let more = heads_bytes t.heads in
    omega (arith, same, length-append (here ++ (u32_bytes (length t.heads) ++ more)) rest, length-append here (u32_bytes (length t.heads) ++ more), length-append (u32_bytes (length t.heads)) more, term_size before t.term, heads_size t.heads)

pub terms_small : (d : ℕ) (before : List ℕ) (terms : List TermData) → d ≤ 2 ^ 26 → All (IsTerm d) terms → length (terms_bytes before (chosen_terms d terms)) ≤ 1073741824 * length terms
terms_small d before [] small are = omega arith
terms_small d before (t ∷ terms) small are =
    let is = All-head (IsTerm d) t terms are in
    let first : TermHeads = record { term = t.term; heads = chosen_heads d t.segments } in
    omega (arith, one_small d before t small is, one_size before first (terms_bytes t.term (chosen_terms d terms)) (length t.segments) (length-map t.segments (chosen_head d)), terms_small d t.term terms small (All-tail (IsTerm d) t terms are))

payloads_small : Few → (d : ℕ) (segments : List SegmentData) → All (IsSegment d) segments → length (chosen_payloads d segments) ≤ 4 * sum_by docs_of segments
payloads_small few d [] are = omega arith
payloads_small few d (s ∷ segments) are =
    omega (arith, few d s.docs (All-head (IsSegment d) s segments are).docs, length-append (chosen_payload d s) (chosen_payloads d segments), sum_by-cons docs_of s segments, payloads_small few d segments (All-tail (IsSegment d) s segments are))

pub all_payloads_small : Few → (d : ℕ) (terms : List TermData) → All (IsTerm d) terms → length (table_payloads d terms) ≤ 4 * sum_by term_postings terms
all_payloads_small few d [] are = omega arith
all_payloads_small few d (t ∷ terms) are =
    omega (arith, payloads_small few d t.segments (All-head (IsTerm d) t terms are).segments, length-append (chosen_payloads d t.segments) (table_payloads d terms), sum_by-cons term_postings t terms, all_payloads_small few d terms (All-tail (IsTerm d) t terms are))

pub totals_size : (names : List (List ℕ)) (entries : List TermHeads) → length (totals_bytes names entries) ≡ 40
unfolding totals_bytes
totals_size names entries = refl

-- what stands before the payloads
pub front_size : (names : List (List ℕ)) (entries : List TermHeads) → length (front_bytes names entries) ≡ 40 + length (names_bytes names) + length (terms_bytes [] entries)
unfolding front_bytes
front_size names entries =
    omega (arith, totals_size names entries, length-append (totals_bytes names entries) (names_bytes names ++ terms_bytes [] entries), length-append (names_bytes names) (terms_bytes [] entries))
