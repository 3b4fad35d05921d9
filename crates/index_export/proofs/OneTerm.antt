-- The postings of a term, by rising document.
use Rattle.shared_lemmas.proofs.Common.{◌≡◌, ◌≢◌, ℕ, ◌+◌, ◌*◌, ◌<◌, ◌≤◌, List, [], ◌∷◌, length, false, refl, sym, ap₂, ◌∙◌, subst, arith, All, Contains, AllByRecursion, flat_map, IsStrictlyIncreasing, IsTotalOrder, nat_tests, on_total, nat_cmp_total, length-map, length-append, recursion_from_All}
use Rattle.shared_lemmas.proofs.Common.{All-from_recursion, All-contains_itself, sum_by-cons}
use Rattle.std.proofs.Common.{is_gt}
use Rattle.std.specs.List.{sum_by}
use Rattle.jass_base.specs.declared.posting.Posting.{Posting}
use Rattle.jass_base.specs.Postings.{docs_of, HasTfInRange}
use Rattle.ranking_model.specs.Order.{sorted}
use Rattle.ranking_model.proofs.Sorting.{sorted_ascends, all_sorted, sum_by-sorted, pairs_sorted, ascends_pairs}
use Rattle.index_model.specs.Index.{SegmentData, TermData, IsTerm, SharesNoDocument}
use Rattle.index_model.proofs.FlatOrder.{term_kept}
use Rattle.shared_lemmas.proofs.Pairs.{Pairs, pairs_map, rising_from_pairs, pairs_append, pairs_weaker, pairs_both}
use Rattle.shared_lemmas.proofs.Lists.{all_weaker, all_append, all_map, all_flat, all_across, all_of}
use Rattle.index_layout.specs.View.{term_postings}
use Rattle.index_export.specs.Exports.{doc_cmp, segment_postings, term_list, impact_sum}

abbrev doc_of : Posting → ℕ
doc_of p = p.doc

abbrev tf_of : Posting → ℕ
tf_of p = p.tf

pub doc_total : IsTotalOrder doc_cmp
doc_total = on_total doc_of nat_cmp_total

-- the postings as they stand in the segments
abbrev pub gathered : List SegmentData → List Posting
gathered segments = flat_map segment_postings segments

abbrev Differ : Posting → Posting → Type 0
Differ a b = a.doc ≢ b.doc

-- ---- they differ in their documents

among : (s : SegmentData) → AllByRecursion (λ (p : Posting). Contains s.docs p.doc) (segment_postings s)
among s = all_map (λ (p : Posting). Contains s.docs p.doc) (λ (doc : ℕ). record { doc = doc; tf = s.impact }) s.docs (recursion_from_All (Contains s.docs) s.docs (All-contains_itself s.docs))

none_among : (s : SegmentData) (segments : List SegmentData) → AllByRecursion (λ (t : SegmentData). SharesNoDocument s t) segments → AllByRecursion (λ (p : Posting). ¬ Contains s.docs p.doc) (gathered segments)
none_among s [] h = tt
none_among s (t ∷ ts) h = all_append (λ (p : Posting). ¬ Contains s.docs p.doc) (segment_postings t) (gathered ts)
    (all_weaker (λ (p : Posting). Contains t.docs p.doc) (λ (p : Posting). ¬ Contains s.docs p.doc) (λ p k i. h.0 p.doc i k) (segment_postings t) (among t))
    (none_among s ts h.1)

differ : (segments : List SegmentData) → Pairs SharesNoDocument segments → AllByRecursion (λ (s : SegmentData). Pairs (λ (x y : ℕ). x < y) s.docs) segments → Pairs Differ (gathered segments)
differ [] h r = tt
differ (s ∷ ss) h r = pairs_append Differ (segment_postings s) (gathered ss)
    (pairs_map Differ (λ (doc : ℕ). record { doc = doc; tf = s.impact }) s.docs (pairs_weaker (λ (x y : ℕ). x < y) (λ (x y : ℕ). x ≢ y) (λ x y l e. omega (arith, l, e)) s.docs r.0))
    (differ ss h.1 r.1)
    (all_across (λ (p : Posting). Contains s.docs p.doc) (λ (p : Posting). ¬ Contains s.docs p.doc) Differ (λ x y p q e. q (subst (Contains s.docs) e p)) (segment_postings s) (gathered ss) (among s) (none_among s ss h.0))

-- ---- so they rise once they are sorted

before : (a b : Posting) → is_gt (doc_cmp a b) ≡ false → a.doc ≢ b.doc → a.doc < b.doc
before a b h n = grind (arith, nat_tests)

pub list_rises : (d : ℕ) (t : TermData) → IsTerm d t → IsStrictlyIncreasing (docs_of (term_list t))
list_rises d t is =
    let kept = term_kept d t is in
    let ps = gathered t.segments in
    let apart : Pairs Differ (sorted doc_cmp ps) = pairs_sorted doc_cmp Differ (λ a b n e. n (sym e)) ps (differ t.segments kept.once kept.rising) in
    rising_from_pairs (docs_of (term_list t)) (pairs_map (λ (x y : ℕ). x < y) doc_of (term_list t)
    (pairs_weaker (λ a b. (is_gt (doc_cmp a b) ≡ false) × Differ a b) (λ (a b : Posting). a.doc < b.doc) (λ a b k. before a b k.0 k.1) (sorted doc_cmp ps)
    (pairs_both (λ a b. is_gt (doc_cmp a b) ≡ false) Differ (sorted doc_cmp ps) (ascends_pairs doc_cmp (sorted doc_cmp ps) (sorted_ascends doc_cmp doc_total ps)) apart)))

-- ---- what holds of each

pub each_tf : (d : ℕ) (t : TermData) → IsTerm d t → AllByRecursion (λ (p : Posting). (1 ≤ p.tf) × (p.tf ≤ 65535)) (gathered t.segments)
each_tf d t is =
    let P : Posting → Type 0 = λ (p : Posting). (1 ≤ p.tf) × (p.tf ≤ 65535) in
    all_flat P segment_postings t.segments (all_weaker (λ (s : SegmentData). (1 ≤ s.impact) × (s.impact ≤ 65535)) (λ (s : SegmentData). AllByRecursion P (segment_postings s))
    (λ s fits. all_map P (λ (doc : ℕ). record { doc = doc; tf = s.impact }) s.docs (all_of (λ (doc : ℕ). (1 ≤ s.impact) × (s.impact ≤ 65535)) (λ doc. fits) s.docs)) t.segments (term_kept d t is).impacts)

pub list_tf : (d : ℕ) (t : TermData) → IsTerm d t → All HasTfInRange (term_list t)
list_tf d t is = All-from_recursion HasTfInRange (term_list t) (all_sorted doc_cmp HasTfInRange (gathered t.segments)
    (all_weaker (λ (p : Posting). (1 ≤ p.tf) × (p.tf ≤ 65535)) HasTfInRange (λ p k. (k.0, omega (arith, k.1))) (gathered t.segments) (each_tf d t is)))

pub list_below : (d : ℕ) (t : TermData) → IsTerm d t → All (λ (doc : ℕ). doc < d) (docs_of (term_list t))
list_below d t is =
    let P : Posting → Type 0 = λ (p : Posting). p.doc < d in
    All-from_recursion (λ (doc : ℕ). doc < d) (docs_of (term_list t)) (all_map (λ (doc : ℕ). doc < d) doc_of (term_list t) (all_sorted doc_cmp P (gathered t.segments)
    (all_flat P segment_postings t.segments (all_weaker (λ (s : SegmentData). AllByRecursion (λ (doc : ℕ). doc < d) s.docs) (λ (s : SegmentData). AllByRecursion P (segment_postings s))
    (λ s h. all_map P (λ (doc : ℕ). record { doc = doc; tf = s.impact }) s.docs h) t.segments (term_kept d t is).below))))

-- ---- how many they are, and the sum of their impacts

gathered_count : (segments : List SegmentData) → length (gathered segments) ≡ sum_by (λ (s : SegmentData). length s.docs) segments
gathered_count [] = refl
gathered_count (s ∷ ss) =
    length-append (segment_postings s) (gathered ss)
    ∙ ap₂ (λ (m n : ℕ). m + n) (length-map s.docs (λ (doc : ℕ). record { doc = doc; tf = s.impact })) (gathered_count ss)
    ∙ sym (sum_by-cons (λ (s : SegmentData). length s.docs) s ss)

limited : (ps : List Posting) → AllByRecursion (λ (p : Posting). (1 ≤ p.tf) × (p.tf ≤ 65535)) ps → impact_sum ps ≤ 65535 * length ps
limited [] h = omega arith
limited (p ∷ ps) h = let a = sum_by-cons tf_of p ps in let b = limited ps h.1 in let c = h.0.1 in omega (arith, a, b, c)

count_sorted : (ps : List Posting) → length (sorted doc_cmp ps) ≡ length ps
count_sorted ps = sym (ones (sorted doc_cmp ps)) ∙ sum_by-sorted doc_cmp (λ (p : Posting). 1) ps ∙ ones ps where
  ones : (qs : List Posting) → sum_by (λ (p : Posting). 1) qs ≡ length qs
  ones [] = refl
  ones (q ∷ qs) = let a = sum_by-cons (λ (p : Posting). 1) q qs in let b = ones qs in omega (arith, a, b)

pub list_count : (t : TermData) → length (term_list t) ≡ term_postings t
list_count t = count_sorted (gathered t.segments) ∙ gathered_count t.segments

pub list_sum : (d : ℕ) (t : TermData) → IsTerm d t → impact_sum (term_list t) ≤ 65535 * term_postings t
list_sum d t is =
    let a = sum_by-sorted doc_cmp tf_of (gathered t.segments) in
    let b = limited (gathered t.segments) (each_tf d t is) in
    let c = gathered_count t.segments in
    omega (arith, a, b, c)
