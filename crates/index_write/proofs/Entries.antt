-- Terms with their heads, from one on.
use Rattle.shared_lemmas.proofs.Common.{◌≡◌, ℕ, ◌+◌, ◌-◌, ◌*◌, ◌<◌, ◌≤◌, ◌^◌, List, [], ◌∷◌, ◌++◌, length, map, drop, add-one, get_or, All, ap, sym, ◌∙◌, refl, arith, slice_index_or, max, sum_by, length-append, length-drop, length-map, get_or-map, All-head, All-tail, All-cons, sum_by-cons, sum_by-append}
use Rattle.index_write.proofs.Below.{u32_bytes, HeadData, all_heads, head_postings, payloads_size, greatest_of, greatest_impact, heads_bytes, rest_behind, shared_with, term_bytes, terms_bytes, greatest_joins}
use Rattle.index_layout.specs.Heads.{TermHeads as EntryData}
use Rattle.index_layout.specs.Layout.{head_bytes}
use Rattle.shared_lemmas.proofs.Lists.{All-unmap}
use Rattle.index_write.specs.Chosen.{head_data}
use Rattle.index_write.specs.Streaming.{AreEntries, IsEntry, IsHead, entry_data, heads_left, no_entry}
use Rattle.index_write.specs.declared.head.PayloadHead.{PayloadHead}
use Rattle.index_write.specs.declared.term_heads.TermHeads.{TermHeads}
use Rattle.std.proofs.Math.Seq.{drop-cons}
use Rattle.index_write.proofs.Bounds.{one_size}

abbrev pub size_of : HeadData → ℕ
size_of h = h.size

abbrev pub count_of : HeadData → ℕ
count_of h = h.count

-- the bytes of heads from one on
pub heads_next : (heads : List PayloadHead) (i : ℕ) (d : PayloadHead) → i < length heads → heads_bytes (map head_data (drop i heads)) ≡ head_bytes (head_data (get_or heads i d)) ++ heads_bytes (map head_data (drop (i + 1) heads))
heads_next heads i d inside = rw (add-one i) (ap (λ hs. heads_bytes (map head_data hs)) (drop-cons heads i d inside))

-- the bytes of the terms from one on
pub entries_next : (before : List ℕ) (t : TermHeads) (from rest : List TermHeads) → from ≡ t ∷ rest
    → terms_bytes before (map entry_data from)
    ≡ (term_bytes before t.term ++ (u32_bytes (length (map head_data t.heads)) ++ heads_bytes (map head_data t.heads))) ++ terms_bytes t.term (map entry_data rest)
entries_next before t from rest is = ap (λ ts. terms_bytes before (map entry_data ts)) is

pub entries_part : (before term : List ℕ) (heads : List PayloadHead) (t : TermHeads) (from rest : List TermHeads) → from ≡ t ∷ rest → term ≡ t.term → heads ≡ t.heads
    → terms_bytes before (map entry_data from) ≡ (term_bytes before term ++ (u32_bytes (length heads) ++ heads_bytes (map head_data heads))) ++ terms_bytes term (map entry_data rest)
entries_part before term heads t from rest is spelled same =
    rw (spelled, same) (entries_next before t from rest is ∙ ap (λ n. (term_bytes before t.term ++ (u32_bytes n ++ heads_bytes (map head_data t.heads))) ++ terms_bytes t.term (map entry_data rest)) (length-map t.heads head_data))

pub entries_next_size : (before : List ℕ) (t : TermHeads) (from rest : List TermHeads) → from ≡ t ∷ rest
    → length (terms_bytes before (map entry_data from)) ≡ 8 + length (rest_behind before t.term) + 11 * length t.heads + length (terms_bytes t.term (map entry_data rest))
entries_next_size before t from rest is =
    ap length (entries_next before t from rest is) ∙ one_size before (entry_data t) (terms_bytes t.term (map entry_data rest)) (length t.heads) (length-map t.heads head_data)

-- the sums over terms from one on
pub sizes_next : (t : TermHeads) (from rest : List TermHeads) → from ≡ t ∷ rest
    → payloads_size (map entry_data from) ≡ sum_by size_of (map head_data t.heads) + payloads_size (map entry_data rest)
sizes_next t from rest is = ap (λ ts. payloads_size (map entry_data ts)) is ∙ sum_by-append size_of (map head_data t.heads) (all_heads (map entry_data rest))

pub postings_next : (t : TermHeads) (from rest : List TermHeads) → from ≡ t ∷ rest
    → head_postings (map entry_data from) ≡ sum_by count_of (map head_data t.heads) + head_postings (map entry_data rest)
postings_next t from rest is = ap (λ ts. head_postings (map entry_data ts)) is ∙ sum_by-append count_of (map head_data t.heads) (all_heads (map entry_data rest))

pub count_next : (t : TermHeads) (from rest : List TermHeads) → from ≡ t ∷ rest
    → length (all_heads (map entry_data from)) ≡ length t.heads + length (all_heads (map entry_data rest))
count_next t from rest is =
    ap (λ ts. length (all_heads (map entry_data ts))) is ∙ length-append (map head_data t.heads) (all_heads (map entry_data rest))
    ∙ ap (λ n. n + length (all_heads (map entry_data rest))) (length-map t.heads head_data)

pub greatest_next : (t : TermHeads) (from rest : List TermHeads) → from ≡ t ∷ rest
    → greatest_impact (map entry_data from) ≡ max (greatest_of (map head_data t.heads)) (greatest_impact (map entry_data rest))
greatest_next t from rest is = ap (λ ts. greatest_impact (map entry_data ts)) is ∙ greatest_joins (map head_data t.heads) (all_heads (map entry_data rest))

-- each head counts a document
counted : (heads : List HeadData) → All IsHead heads → length heads ≤ sum_by count_of heads
counted [] are = omega arith
counted (h ∷ heads) are =
    let one = (All-head IsHead h heads are).count in
    omega (arith, one, sum_by-cons count_of h heads, counted heads (All-tail IsHead h heads are))

pub heads_few : (entries : List EntryData) → All IsEntry entries → length (all_heads entries) ≤ head_postings entries
heads_few [] are = omega arith
heads_few (t ∷ entries) are =
    let here = counted t.heads (All-head IsEntry t entries are).heads in
    let all = length-append t.heads (all_heads entries) in
    omega (arith, here, all, sum_by-append count_of t.heads (all_heads entries), heads_few entries (All-tail IsEntry t entries are))

pub entries_small : (before : List ℕ) (entries : List EntryData) → All IsEntry entries → length (terms_bytes before entries) ≤ 65543 * length entries + 11 * length (all_heads entries)
entries_small before [] are = omega arith
entries_small before (t ∷ entries) are =
    let fits = (All-head IsEntry t entries are).fits in
    let size = one_size before t (terms_bytes t.term entries) (length t.heads) refl in
    let rest = length-drop (shared_with before t.term) t.term in
    omega (arith, fits, size, rest, length-append t.heads (all_heads entries), entries_small t.term entries (All-tail IsEntry t entries are))

-- a term has at most as many heads as all of them
abbrev Few : ℕ → EntryData → Type 0
Few n t = length t.heads ≤ n

each_few : (entries : List EntryData) (n : ℕ) → length (all_heads entries) ≤ n → All (Few n) entries
each_few [] n few = λ i d inside. absurd (omega (arith, inside))
each_few (t ∷ entries) n few = All-cons (Few n) t entries (omega (arith, few, length-append t.heads (all_heads entries))) (each_few entries n (omega (arith, few, length-append t.heads (all_heads entries))))

pub heads_each : (entries : List TermHeads) → AreEntries (map entry_data entries) → All (λ (t : TermHeads). length t.heads < 2 ^ 32) entries
heads_each entries are =
    let plain = map entry_data entries in
    let few = each_few plain (2 ^ 29) (omega (arith, are.postings, heads_few plain are.each)) in
    λ i t inside. (let e = All-unmap (Few (2 ^ 29)) entry_data entries few i t inside in omega (arith, e, length-map (get_or entries i t).heads head_data))

pub terms_each : (entries : List TermHeads) → AreEntries (map entry_data entries) → All (λ (t : TermHeads). length t.term ≤ 65535) entries
terms_each entries are = λ i t inside. (All-unmap IsEntry entry_data entries are.each i t inside).fits

-- the heads of the first of so many terms at the end
pub heads_there : (entries : List TermHeads) (left : ℕ) (t : TermHeads) → 1 ≤ left → left ≤ length entries → t ≡ slice_index_or entries (length entries - left) t
    → map head_data t.heads ≡ heads_left (map entry_data entries) left
unfolding heads_left
heads_there entries left t some within is =
    let place = length entries - left in
    let inside : place < length entries = omega (arith, some, within) in
    let plain = map entry_data entries in
    let there : get_or plain (length plain - left) no_entry ≡ entry_data t =
    ap (λ n. get_or plain (n - left) no_entry) (length-map entries entry_data) ∙ get_or-map entry_data entries place t no_entry inside ∙ ap entry_data (sym is) in
    sym (ap (λ (t : EntryData). t.heads) there)
