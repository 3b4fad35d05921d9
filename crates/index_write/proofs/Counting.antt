-- A document stands at most once in a term, so that a term has few postings.
use Rattle.shared_lemmas.proofs.Common.{add-one, ◌≡◌, ℕ, suc, zero, ◌<◌, ◌≤◌, true, false, nat_eq, List, [], ◌∷◌, ◌++◌, length, get_or, All, sym, subst, refl, arith, inl, inr, slice_index, ◌⊎◌, Contains, AllPairs, AllByRecursion, list_any, IsStrictlyIncreasing, cases_lt, ne_eqb, length-flat_map}
use Rattle.shared_lemmas.proofs.Common.{get_or_default, All-head, All-tail, All-append, All-nil, Contains-append_cases, IsDistinct-from_apart, length-le_from_distinct_below, Contains-from_any}
use Rattle.std.specs.Prelude.{flat_map}
use Rattle.std.specs.List.{IsDistinct}
use borrow.Author.Tests.{eqb-true}
use Rattle.index_write.proofs.Below.{SegmentData, TermData, IsSegment, IsTerm, SharesNoDocument, term_postings, pairs_head, pairs_tail}
use Rattle.shared_lemmas.proofs.Lists.{all_append}

-- numbers that rise lie apart
step_to : (docs : List ℕ) → IsStrictlyIncreasing docs → (j : ℕ) → suc j < length docs → slice_index docs j < slice_index docs (suc j)
step_to docs rising j inside = subst (λ (n : ℕ). slice_index docs j < slice_index docs n) (add-one j) (rising j (omega (arith, inside)))

far : (docs : List ℕ) → IsStrictlyIncreasing docs → (i j : ℕ) → i < j → j < length docs → slice_index docs i < slice_index docs j
far docs rising i zero less inside = absurd (omega (arith, less))
far docs rising i (suc j) less inside = either (λ l. far docs rising i j l (omega (arith, inside))) (cases_lt i j)
  where
    either : (i < j → slice_index docs i < slice_index docs j) → (i < j) ⊎ (j ≤ i) → slice_index docs i < slice_index docs (suc j)
    either before (inl l) = omega (arith, before l, step_to docs rising j inside)
    either before (inr l) = subst (λ (n : ℕ). slice_index docs n < slice_index docs (suc j)) {x = j} (omega (arith, l, less)) (step_to docs rising j inside)

rising_distinct : (docs : List ℕ) → IsStrictlyIncreasing docs → IsDistinct nat_eq docs
rising_distinct docs rising = IsDistinct-from_apart nat_eq docs
    (λ i j d less inside. ne_eqb (get_or docs i d) (get_or docs j d) (λ same. absurd (omega (arith, same, far docs rising i j less inside, get_or_default docs i d 0 (omega (arith, less, inside)), get_or_default docs j d 0 inside))))

-- no number of one list is in the other
abbrev Apart : List ℕ → List ℕ → Type 0
Apart xs ys = (x : ℕ) → Contains xs x → ¬ Contains ys x

differ : (x : ℕ) (ys : List ℕ) → ¬ Contains ys x → AllByRecursion (λ y. nat_eq x y ≡ false) ys
differ x [] none = tt
differ x (y ∷ ys) none = (
  ne_eqb x y (λ same. none (0, omega arith, sym same)),
  differ x ys (λ has. none (suc has.0, (let e = has.1 in omega (arith, e)), has.2)),
)

distinct_join : (xs ys : List ℕ) → IsDistinct nat_eq xs → IsDistinct nat_eq ys → Apart xs ys → IsDistinct nat_eq (xs ++ ys)
unfolding IsDistinct
distinct_join [] ys one two apart = two
distinct_join (x ∷ xs) ys one two apart = (
  all_append (λ y. nat_eq x y ≡ false) xs ys one.0 (differ x ys (apart x (0, omega arith, refl))),
  distinct_join xs ys one.1 two (λ z has. apart z (suc has.0, (let e = has.1 in omega (arith, e)), has.2)),
)

abbrev docs_in : SegmentData → List ℕ
docs_in s = s.docs

both_apart : (docs one two : List ℕ) → Apart docs one → Apart docs two → Apart docs (one ++ two)
both_apart docs one two first second = λ x has other. either x has (Contains-append_cases one two x other)
  where
    either : (x : ℕ) → Contains docs x → Contains one x ⊎ Contains two x → ⊥
    either x has (inl other) = first x has other
    either x has (inr other) = second x has other

later_apart : (docs : List ℕ) (segments : List SegmentData) → All (λ (s : SegmentData). Apart docs s.docs) segments → Apart docs (flat_map docs_in segments)
later_apart docs [] apart = λ x one two. absurd (let e = two.1 in omega (arith, e))
later_apart docs (s ∷ segments) apart =
    both_apart docs s.docs (flat_map docs_in segments) (All-head (λ (s : SegmentData). Apart docs s.docs) s segments apart)
    (later_apart docs segments (All-tail (λ (s : SegmentData). Apart docs s.docs) s segments apart))

all_distinct : (d : ℕ) (segments : List SegmentData) → All (IsSegment d) segments → AllPairs SharesNoDocument segments → IsDistinct nat_eq (flat_map docs_in segments)
unfolding IsDistinct
all_distinct d [] are pairs = tt
all_distinct d (s ∷ segments) are pairs =
    distinct_join s.docs (flat_map docs_in segments) (rising_distinct s.docs (All-head (IsSegment d) s segments are).docs.rising)
    (all_distinct d segments (All-tail (IsSegment d) s segments are) (pairs_tail SharesNoDocument s segments pairs)) (later_apart s.docs segments (pairs_head SharesNoDocument s segments pairs))

abbrev Below : ℕ → ℕ → Type 0
Below d doc = doc < d

all_below : (d : ℕ) (segments : List SegmentData) → All (IsSegment d) segments → All (Below d) (flat_map docs_in segments)
all_below d [] are = All-nil (Below d)
all_below d (s ∷ segments) are = All-append (Below d) s.docs (flat_map docs_in segments) (All-head (IsSegment d) s segments are).docs.below (all_below d segments (All-tail (IsSegment d) s segments are))

below_query : (d : ℕ) (docs : List ℕ) → All (Below d) docs → (q : ℕ) → list_any (nat_eq q) docs ≡ true → q < d
below_query d docs below q found =
    let has = Contains-from_any eqb-true q docs found in
    subst (λ (n : ℕ). n < d) has.2 (below has.0 q has.1)

-- a term has at most as many postings as the index has documents
pub term_few : (d : ℕ) (t : TermData) → IsTerm d t → term_postings t ≤ d
term_few d t is =
    let docs = flat_map docs_in t.segments in
    let few : length docs ≤ d = length-le_from_distinct_below docs d (all_distinct d t.segments is.segments is.once) (below_query d docs (all_below d t.segments is.segments)) in
    omega (arith, few, length-flat_map docs_in t.segments)
