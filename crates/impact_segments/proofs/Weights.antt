-- A list's postings are few enough, and their weights are in the range of all.
use Rattle.shared_lemmas.proofs.Common.{◌≡◌, ℕ, suc, ◌+◌, ◌<◌, ◌≤◌, ◌^◌, max, min, List, [], ◌∷◌, length, map, drop, get_or, slice_get, get_or_from_slice_get, Some, sym, ap, ap₂, ◌∙◌, subst, arith, fold, All, slice_index, AllByRecursion, flat_map, IsStrictlyIncreasing, recursion_from_All, All-from_recursion, length-map, get_or-map}
use Rattle.shared_lemmas.proofs.Common.{drop_more, map-map}
use Rattle.shared_lemmas.proofs.Pairs.{Pairs, rising_pairs}
use Rattle.shared_lemmas.proofs.Lists.{all_weaker, all_parts}
use Rattle.impact_segments.proofs.Below.{DocRecord, Posting, PostingsList, HasDocsBelow, HasTfInRange, docs_of, Rule, Bm25, idf, length_norm, saturated, weight_of, saturated_cut, Bits, Of, Range, widened, range_of, empty_range, Holds, IsInRange, least-le_start, greatest-ge_start}
use Rattle.impact_segments.specs.Private.Weighed.{lengths_in, total_length, norms_of, list_weights}
use Rattle.impact_segments.proofs.OneTerm.{all_map_at}

-- numbers that rise and lie from low on below high
few : (low high : ℕ) (xs : List ℕ) → low ≤ high → Pairs (λ (x y : ℕ). x < y) xs → AllByRecursion (λ (x : ℕ). low ≤ x) xs → AllByRecursion (λ (x : ℕ). x < high) xs → low + length xs ≤ high
few low high [] room h from below = omega arith
few low high (x ∷ xs) room h from below =
    let rest : suc x + length xs ≤ high = few (suc x) high xs (omega (arith, below.0)) h.1 (all_weaker (λ (y : ℕ). x < y) (λ (y : ℕ). suc x ≤ y) (λ y l. omega (arith, l)) xs h.0) below.1 in
    omega (arith, rest, from.0)

from_zero : (xs : List ℕ) → AllByRecursion (λ (x : ℕ). 0 ≤ x) xs
from_zero [] = tt
from_zero (x ∷ xs) = (omega arith, from_zero xs)

pub few_rising : (docs : ℕ) (ps : List Posting) → IsStrictlyIncreasing (docs_of ps) → All (λ (doc : ℕ). doc < docs) (docs_of ps) → length ps ≤ docs
few_rising docs ps rising below =
    let all : 0 + length (docs_of ps) ≤ docs = few 0 docs (docs_of ps) (omega arith) (rising_pairs (docs_of ps) rising) (from_zero (docs_of ps)) (recursion_from_All (λ (doc : ℕ). doc < docs) (docs_of ps) below) in
    let same : length (docs_of ps) ≡ length ps = length-map ps (λ (p : Posting). p.doc) in
    omega (arith, all, same)

pub few_postings : (docs : ℕ) (list : PostingsList) → HasDocsBelow docs list → length list.postings ≤ docs
few_postings docs list below = few_rising docs list.postings list.rising below

-- the document of a posting of a list
pub item_below : (docs : ℕ) (list : PostingsList) (items : List Posting) (i : ℕ) (d : Posting) → items ≡ list.postings → i < length items → HasDocsBelow docs list → (get_or items i d).doc < docs
item_below docs list items i d are low below =
    let P : List Posting → Type 0 = λ (l : List Posting). All (λ (doc : ℕ). doc < docs) (docs_of l) in
    all_map_at (λ (doc : ℕ). doc < docs) (λ (p : Posting). p.doc) items i d low (subst P (sym are) below)

-- the document of one of some postings
pub doc_below : (docs : ℕ) (postings : List Posting) (place : ℕ) (p : Posting) → slice_get postings place ≡ Some p → place < length postings → All (λ (doc : ℕ). doc < docs) (docs_of postings) → p.doc < docs
doc_below docs postings place p there low below =
    subst (λ (x : Posting). x.doc < docs) (get_or_from_slice_get postings place p p there)
    (all_map_at (λ (doc : ℕ). doc < docs) (λ (x : Posting). x.doc) postings place p low below)

-- how often its term stands in it
pub tf_there : (postings : List Posting) (place : ℕ) (p : Posting) → slice_get postings place ≡ Some p → place < length postings → All HasTfInRange postings → HasTfInRange p
tf_there postings place p there low all = subst HasTfInRange (get_or_from_slice_get postings place p p there) (all place p low)

-- one posting more in the range
pub widened_more : (weigh : Posting → ℕ) (r after all : Range) (items : List Posting) (i : ℕ) (d : Posting) (w : ℕ) → i < length items → w ≡ weigh (get_or items i d) → after ≡ widened r w
    → fold widened r (map weigh (drop i items)) ≡ all → fold widened after (map weigh (drop (i + 1) items)) ≡ all
widened_more weigh r after all items i d w low is then so_far =
    ap (λ (q : Range). fold widened q (map weigh (drop (i + 1) items))) (then ∙ ap (λ (v : ℕ). widened r v) is)
    ∙ ap (λ (l : List Posting). fold widened r (map weigh l)) (sym (drop_more items i d low)) ∙ so_far

-- the norm of a document, at its place among all
pub norm_at : (docs : List DocRecord) (norms : List ℕ) (doc norm : ℕ) → norms ≡ norms_of docs → doc < length docs → norm ≡ get_or norms doc norm
    → norm ≡ min (length_norm (length docs) (total_length docs) (slice_index (lengths_in docs) doc)) (2 ^ 63)
norm_at docs norms doc norm are low at =
    let f : ℕ → ℕ = λ (n : ℕ). min (length_norm (length docs) (total_length docs) n) (2 ^ 63) in
    at ∙ ap (λ (l : List ℕ). get_or l doc norm) (are ∙ sym (map-map f (λ (d : DocRecord). d.length) docs)) ∙ get_or-map f (lengths_in docs) doc 0 norm (rw length-map low)

-- the weight by a term's rarity and a document's norm
pub weight_is : (docs : List DocRecord) (count tf doc rare norm w : ℕ) → w ≡ max 1 (saturated rare tf norm) → rare ≡ idf (length docs) count → rare < 27648 → tf < 2 ^ 31
    → norm ≡ min (length_norm (length docs) (total_length docs) (slice_index (lengths_in docs) doc)) (2 ^ 63)
    → w ≡ weight_of Bm25 (length (lengths_in docs)) (total_length docs) count tf (slice_index (lengths_in docs) doc)
weight_is docs count tf doc rare norm w is rare_is low few norm_is =
    let P : ℕ → Type 0 = λ (r : ℕ). r < 27648 in
    is ∙ ap₂ (λ (r n : ℕ). max 1 (saturated r tf n)) rare_is norm_is
    ∙ saturated_cut (idf (length docs) count) tf (length_norm (length docs) (total_length docs) (slice_index (lengths_in docs) doc)) (subst P rare_is low) few
    ∙ ap (λ (n : ℕ). weight_of Bm25 n (total_length docs) count tf (slice_index (lengths_in docs) doc)) (sym (length-map docs (λ (d : DocRecord). d.length)))

-- the weight by a term's rarity, where the documents' lengths are known
pub weight_by : (lengths : List ℕ) (total count tf doc rare size norm w : ℕ) → w ≡ max 1 (saturated rare tf norm) → rare ≡ idf (length lengths) count → rare < 27648 → tf < 2 ^ 31
    → norm ≡ min (length_norm (length lengths) total size) (2 ^ 63) → size ≡ slice_index lengths doc
    → w ≡ weight_of Bm25 (length lengths) total count tf (slice_index lengths doc)
weight_by lengths total count tf doc rare size norm w is rare_is low few norm_is size_is =
    let P : ℕ → Type 0 = λ (r : ℕ). r < 27648 in
    is ∙ ap₂ (λ (r n : ℕ). max 1 (saturated r tf n)) rare_is norm_is
    ∙ saturated_cut (idf (length lengths) count) tf (length_norm (length lengths) total size) (subst P rare_is low) few
    ∙ ap (λ (n : ℕ). weight_of Bm25 (length lengths) total count tf n) size_is

-- ---- the range

pub held : (r : Range) (ws : List ℕ) → AllByRecursion (λ (w : ℕ). ((fold widened r ws).least ≤ w) × (w ≤ (fold widened r ws).greatest)) ws
held r [] = tt
held r (w ∷ ws) = ((omega (arith, least-le_start (widened r w) ws), omega (arith, greatest-ge_start (widened r w) ws)), held (widened r w) ws)

pub all_in_range : (rule : Rule) (docs : List DocRecord) (lists : List PostingsList) (range : Range) (bits : Bits) (b : ℕ) → bits ≡ Of b → range ≡ range_of (flat_map (list_weights rule docs) lists) → range.greatest < 2 ^ 31
    → All (λ (l : PostingsList). All (IsInRange bits range) (list_weights rule docs l)) lists
all_in_range rule docs lists range bits b of is limit =
    let weights : List ℕ = flat_map (list_weights rule docs) lists in
    let P : Range → Type 0 = λ (r : Range). AllByRecursion (λ (w : ℕ). (r.least ≤ w) × (w ≤ r.greatest)) weights in
    let Q : Bits → Type 0 = λ (k : Bits). All (λ (l : PostingsList). All (IsInRange k range) (list_weights rule docs l)) lists in
    let each : AllByRecursion (λ (w : ℕ). (range.least ≤ w) × (w ≤ range.greatest)) weights = subst P (sym is) (held empty_range weights) in
    let holds : AllByRecursion (λ (w : ℕ). Holds range w) weights = all_weaker (λ (w : ℕ). (range.least ≤ w) × (w ≤ range.greatest)) (λ (w : ℕ). Holds range w)
    (λ w h. record { from_least = h.0; to_greatest = h.1; limit = omega (arith, limit) }) weights each in
    subst Q (sym of) (All-from_recursion (λ (l : PostingsList). All (IsInRange (Of b) range) (list_weights rule docs l)) lists
    (all_weaker (λ (l : PostingsList). AllByRecursion (λ (w : ℕ). Holds range w) (list_weights rule docs l)) (λ (l : PostingsList). All (IsInRange (Of b) range) (list_weights rule docs l))
    (λ l h. All-from_recursion (IsInRange (Of b) range) (list_weights rule docs l) h) lists (all_parts (λ (w : ℕ). Holds range w) (list_weights rule docs) lists holds)))
