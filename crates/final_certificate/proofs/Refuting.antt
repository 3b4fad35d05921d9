-- One gain of the bound by one document changes an answer whose edges are not safe.
use Rattle.shared_lemmas.proofs.Common.{◌≡◌, ◌≢◌, ℕ, ◌+◌, ◌<◌, ◌≤◌, ◌==◌, List, [], ◌∷◌, length, map, drop, filter, Bool, true, false, cond, refl, sym, ap, subst, ◌∙◌, arith, inl, inr, ◌⊎◌, eq-eqb, IsPermutation, AllByRecursion, nat_tests, length-map, length-take, take_all, length_permutation}
use Rattle.shared_lemmas.proofs.Common.{sum_by-IsPermutation, sum_by-cons, sum_by-take-drop, cases_Bool}
use borrow.Author.Tests.{eqb-true}
use Rattle.jass_base.specs.declared.answer.Hit.{Hit}
use Rattle.ranking_model.specs.Scores.{rank_cmp}
use Rattle.shared_lemmas.proofs.Sums.{sum_map}
use Rattle.shared_lemmas.proofs.Lists.{all_weaker, all_both, all_take, all_drop, all_map, all_filter}
use Rattle.ranking_model.proofs.Sorting.{Ascends, sorted_ascends, sum_by-sorted, all_sorted}
use Rattle.ranking_model.proofs.Orders.{rank_total}
use Rattle.ranking_model.proofs.Candidates.{ascends_take, take_before_drop, count_doc}
use Rattle.final_certificate.specs.Rule.{gained, is_safe, are_safe}
use Rattle.final_certificate.proofs.Lists.{sum_by-filter, sum_by-same}
use Rattle.final_certificate.proofs.Lifting.{is_scored, lift}
use Rattle.final_certificate.proofs.Edges.{Leads, leads_safe, ranked, front, others, parted, docs, docs_lift}

pub count_own : (z : ℕ) (h : Hit) (xs : List Hit) → h.doc ≡ z → count_doc z (h ∷ xs) ≡ 1 + count_doc z xs
count_own z h xs e = let t : (h.doc == z) ≡ true = eq-eqb h.doc z e in rw (sum_by-cons (λ (h : Hit). cond (h.doc == z) 1 0) h xs, t) refl

pub count_other : (z : ℕ) (h : Hit) (xs : List Hit) → (h.doc == z) ≡ false → count_doc z (h ∷ xs) ≡ count_doc z xs
count_other z h xs f = rw (sum_by-cons (λ (h : Hit). cond (h.doc == z) 1 0) h xs, f) (omega arith)

pub found : (P : Hit → Type 0) (z : ℕ) (xs : List Hit) → AllByRecursion P xs → 1 ≤ count_doc z xs → (h : Hit) × (h.doc ≡ z) × P h
found P z [] all some = absurd (omega arith)
found P z (x ∷ xs) all some = by (cases_Bool (x.doc == z)) (found P z xs all.1) where
  by : ((x.doc == z) ≡ true) ⊎ ((x.doc == z) ≡ false) → (1 ≤ count_doc z xs → (h : Hit) × (h.doc ≡ z) × P h) → (h : Hit) × (h.doc ≡ z) × P h
  by (inl t) rest = (x, eqb-true x.doc z t, all.0)
  by (inr f) rest = rest (let e = count_other z x xs f in omega arith)

-- ---- one gain

abbrev pub one : ℕ → ℕ → ℕ → ℕ
one bound z doc = cond (doc == z) bound 0

pub one_self : (bound z : ℕ) → one bound z z ≡ bound
one_self bound z = let t : (z == z) ≡ true = eq-eqb z z refl in rw t refl

pub one_other : (bound z doc : ℕ) → doc ≢ z → one bound z doc ≡ 0
one_other bound z doc apart = by (cases_Bool (doc == z)) where
  by : ((doc == z) ≡ true) ⊎ ((doc == z) ≡ false) → one bound z doc ≡ 0
  by (inl t) = absurd (apart (eqb-true doc z t))
  by (inr f) = rw f refl

pub one_small : (bound z doc : ℕ) → one bound z doc ≤ bound
one_small bound z doc = by (cases_Bool (doc == z)) where
  by : ((doc == z) ≡ true) ⊎ ((doc == z) ≡ false) → one bound z doc ≤ bound
  by (inl t) = rw t (omega arith)
  by (inr f) = rw f (omega arith)

comes : (bound z : ℕ) (h : Hit) → 1 ≤ bound → ◌≡◌ {A = ℕ} (cond (is_scored (lift (one bound z) h)) (cond (h.doc == z) 1 0) 0) (cond (h.doc == z) 1 0)
comes bound z h some = by (cases_Bool (h.doc == z)) where
  nothing : (b : Bool) → ◌≡◌ {A = ℕ} (cond b 0 0) 0
  nothing true = refl
  nothing false = refl

  by : ((h.doc == z) ≡ true) ⊎ ((h.doc == z) ≡ false) → ◌≡◌ {A = ℕ} (cond (is_scored (lift (one bound z) h)) (cond (h.doc == z) 1 0) 0) (cond (h.doc == z) 1 0)
  by (inl t) = let e : (h.score + bound == 0) ≡ false = grind (arith, nat_tests) in rw (t, e) refl
  by (inr f) = rw f (nothing (is_scored (gained 0 h)))

abbrev pub with_gain : ℕ → ℕ → List Hit → List Hit
with_gain bound z all = map (lift (one bound z)) all

-- whatever gains is hit
entered : (all : List Hit) (bound z : ℕ) → 1 ≤ bound → count_doc z (ranked (with_gain bound z all)) ≡ count_doc z all
entered all bound z some = sum_by-sorted rank_cmp (λ (h : Hit). cond (h.doc == z) 1 0) (filter is_scored (with_gain bound z all))
    ∙ sum_by-filter is_scored (λ (h : Hit). cond (h.doc == z) 1 0) (with_gain bound z all)
    ∙ sum_map (λ (h : Hit). cond (is_scored h) (cond (h.doc == z) 1 0) 0) (lift (one bound z)) all
    ∙ sum_by-same (λ (h : Hit). cond (is_scored (lift (one bound z) h)) (cond (h.doc == z) 1 0) 0) (λ (h : Hit). cond (h.doc == z) 1 0) all (each all)
  where
    each : (xs : List Hit) → AllByRecursion (λ (h : Hit). ◌≡◌ {A = ℕ} (cond (is_scored (lift (one bound z) h)) (cond (h.doc == z) 1 0) 0) (cond (h.doc == z) 1 0)) xs
    each [] = tt
    each (x ∷ xs) = (comes bound z x some, each xs)

-- ---- the other documents

abbrev pub IsTrueTo : (ℕ → ℕ) → List Hit → Type 0
IsTrueTo score_of hits = AllByRecursion (λ (h : Hit). h.score ≡ score_of h.doc) hits

abbrev pub KeepsWith : List Hit → ℕ → ℕ → ℕ → Type 0
KeepsWith all k bound z = IsPermutation (docs (front all k)) (docs (front (with_gain bound z all) k))

true_lift : (score_of gain : ℕ → ℕ) (xs : List Hit) → IsTrueTo score_of xs → IsTrueTo (λ d. score_of d + gain d) (map (lift gain) xs)
true_lift score_of gain xs h = all_map (λ (h : Hit). h.score ≡ score_of h.doc + gain h.doc) (lift gain) xs
    (all_weaker (λ (h : Hit). h.score ≡ score_of h.doc) (λ (h : Hit). h.score + gain h.doc ≡ score_of h.doc + gain h.doc) (λ h e. ap (λ n. n + gain h.doc) e) xs h)

pub true_ranked : (score_of : ℕ → ℕ) (xs : List Hit) → IsTrueTo score_of xs → IsTrueTo score_of (ranked xs)
true_ranked score_of xs h = all_sorted rank_cmp (λ (h : Hit). h.score ≡ score_of h.doc) (filter is_scored xs) (all_filter (λ (h : Hit). h.score ≡ score_of h.doc) is_scored xs h)

still : (all : List Hit) (k bound z doc : ℕ) → KeepsWith all k bound z → count_doc doc (front (with_gain bound z all) k) ≡ count_doc doc (front all k)
still all k bound z doc kept = sym (sum_map (λ d. cond (d == doc) 1 0) (λ (h : Hit). h.doc) (front (with_gain bound z all) k))
    ∙ sum_by-IsPermutation (λ d. cond (d == doc) 1 0) (docs (front all k)) (docs (front (with_gain bound z all) k)) kept
    ∙ sum_map (λ d. cond (d == doc) 1 0) (λ (h : Hit). h.doc) (front all k)

pub outside : (all : List Hit) (k z : ℕ) → ((d : ℕ) → count_doc d all ≤ 1) → 1 ≤ count_doc z (others all k) → count_doc z (front all k) ≡ 0
outside all k z once there = let sum = parted all k (λ (h : Hit). cond (h.doc == z) 1 0) in let few = once z in omega arith

inside : (all : List Hit) (k z : ℕ) → 1 ≤ count_doc z (others all k) → 1 ≤ count_doc z all
inside all k z there = let sum = parted all k (λ (h : Hit). cond (h.doc == z) 1 0) in omega arith

pub same_hit : (g h : Hit) → g.doc ≡ h.doc → g.score ≡ h.score → g ≡ h
same_hit g h d s = λ i. record { doc = d i; score = s i }

-- where the documents are kept, one of them is safe from each other document
pub kept_safe : (all : List Hit) (score_of : ℕ → ℕ) → IsTrueTo score_of all → ((d : ℕ) → count_doc d all ≤ 1) → (k bound : ℕ) (a b : Hit) → 1 ≤ bound
    → a.score ≡ score_of a.doc → b.score ≡ score_of b.doc → 1 ≤ count_doc a.doc (front all k) → 1 ≤ count_doc b.doc (others all k)
    → KeepsWith all k bound b.doc → is_safe bound a b ≡ true
kept_safe all score_of true_all once k bound a b some a_true b_true a_in b_out kept =
    leads_safe bound a b apart (subst (λ (h : Hit). Leads a h) there (subst (λ (h : Hit). Leads h second.0) here second.2.1))
  where
    gone : count_doc b.doc (front all k) ≡ 0
    gone = outside all k b.doc once b_out

    apart : a.doc ≢ b.doc
    apart e = let m = subst (λ d. 1 ≤ count_doc d (front all k)) e a_in in let n = gone in omega arith

    trues : IsTrueTo (λ d. score_of d + one bound b.doc d) (ranked (with_gain bound b.doc all))
    trues = true_ranked (λ d. score_of d + one bound b.doc d) (with_gain bound b.doc all) (true_lift score_of (one bound b.doc) all true_all)

    behind : 1 ≤ count_doc b.doc (drop k (ranked (with_gain bound b.doc all)))
    behind =
        let s = sum_by-take-drop (λ (h : Hit). cond (h.doc == b.doc) 1 0) (ranked (with_gain bound b.doc all)) k in
        let e = entered all bound b.doc some in let i = inside all k b.doc b_out in let k' = still all k bound b.doc b.doc kept in
        let g = gone in
        omega arith

    first : (h : Hit) × (h.doc ≡ a.doc) × ((h.score ≡ score_of h.doc + one bound b.doc h.doc) × AllByRecursion (λ u. Leads h u) (drop k (ranked (with_gain bound b.doc all))))
    first = found (λ h. (h.score ≡ score_of h.doc + one bound b.doc h.doc) × AllByRecursion (λ u. Leads h u) (drop k (ranked (with_gain bound b.doc all)))) a.doc (front (with_gain bound b.doc all) k)
        (all_both (λ (h : Hit). h.score ≡ score_of h.doc + one bound b.doc h.doc) (λ h. AllByRecursion (λ u. Leads h u) (drop k (ranked (with_gain bound b.doc all)))) (front (with_gain bound b.doc all) k)
        (all_take (λ (h : Hit). h.score ≡ score_of h.doc + one bound b.doc h.doc) k (ranked (with_gain bound b.doc all)) trues)
        (take_before_drop rank_cmp k (ranked (with_gain bound b.doc all)) (sorted_ascends rank_cmp rank_total (filter is_scored (with_gain bound b.doc all)))))
        (let k' = still all k bound b.doc a.doc kept in omega arith)

    second : (u : Hit) × (u.doc ≡ b.doc) × ((u.score ≡ score_of u.doc + one bound b.doc u.doc) × Leads first.0 u)
    second = found (λ u. (u.score ≡ score_of u.doc + one bound b.doc u.doc) × Leads first.0 u) b.doc (drop k (ranked (with_gain bound b.doc all)))
        (all_both (λ (u : Hit). u.score ≡ score_of u.doc + one bound b.doc u.doc) (λ u. Leads first.0 u) (drop k (ranked (with_gain bound b.doc all)))
        (all_drop (λ (u : Hit). u.score ≡ score_of u.doc + one bound b.doc u.doc) k (ranked (with_gain bound b.doc all)) trues) first.2.1) behind

    here : first.0 ≡ a
    here = same_hit first.0 a first.1 (first.2.0 ∙ ap (λ d. score_of d + one bound b.doc d) first.1 ∙ (let z = one_other bound b.doc a.doc apart in omega arith))

    there : second.0 ≡ gained bound b
    there = same_hit second.0 (gained bound b) second.1 (second.2.0 ∙ ap (λ d. score_of d + one bound b.doc d) second.1 ∙ (let z = one_self bound b.doc in omega arith))

-- where fewer than k are hit, another document is hit with any gain
pub few_enter : (all : List Hit) → ((d : ℕ) → count_doc d all ≤ 1) → (k bound z : ℕ) → 1 ≤ bound → length (front all k) < k → 1 ≤ count_doc z (others all k) → KeepsWith all k bound z → ⊥
few_enter all once k bound z some few out kept =
    let a = length_permutation (docs (front all k)) (docs (front (with_gain bound z all) k)) kept in
    let b = length-map (front all k) (λ (h : Hit). h.doc) in
    let c = length-map (front (with_gain bound z all) k) (λ (h : Hit). h.doc) in
    let d = length-take k (ranked (with_gain bound z all)) in
    let e : length (ranked (with_gain bound z all)) ≤ k = omega arith in
    let f = ap (count_doc z) (take_all k (ranked (with_gain bound z all)) e) in
    let g = entered all bound z some in let h = inside all k z out in let i = outside all k z once out in
    let j = still all k bound z z kept in
    absurd (omega arith)

-- ---- the order

read_back : (score_of : ℕ → ℕ) (xs ys : List Hit) → IsTrueTo score_of xs → IsTrueTo score_of ys → docs xs ≡ docs ys → xs ≡ ys
read_back score_of [] [] a b same = refl
read_back score_of [] (y ∷ ys) a b same = absurd (cc)
read_back score_of (x ∷ xs) [] a b same = absurd (cc)
read_back score_of (x ∷ xs) (y ∷ ys) a b same =
    let d : x.doc ≡ y.doc = cc in
    let ds : docs xs ≡ docs ys = cc in
    let first : x ≡ y = same_hit x y d (a.0 ∙ ap score_of d ∙ sym b.0) in
    let rest = read_back score_of xs ys a.1 b.1 ds in
    λ i. first i ∷ rest i

pub order_read : (all : List Hit) (score_of : ℕ → ℕ) → IsTrueTo score_of all → (k bound z : ℕ) → docs (front (with_gain bound z all) k) ≡ docs (front all k) → Ascends rank_cmp (map (lift (one bound z)) (front all k))
order_read all score_of true_all k bound z same = subst (Ascends rank_cmp)
    (read_back (λ d. score_of d + one bound z d) (front (with_gain bound z all) k) (map (lift (one bound z)) (front all k))
    (all_take (λ (h : Hit). h.score ≡ score_of h.doc + one bound z h.doc) k (ranked (with_gain bound z all)) (true_ranked (λ d. score_of d + one bound z d) (with_gain bound z all) (true_lift score_of (one bound z) all true_all)))
    (true_lift score_of (one bound z) (front all k) (all_take (λ (h : Hit). h.score ≡ score_of h.doc) k (ranked all) (true_ranked score_of all true_all)))
    (same ∙ sym (docs_lift (one bound z) (front all k))))
    (ascends_take rank_cmp k (ranked (with_gain bound z all)) (sorted_ascends rank_cmp rank_total (filter is_scored (with_gain bound z all))))

all_safe : (bound : ℕ) (xs : List Hit) → ((z : ℕ) → Ascends rank_cmp (map (lift (one bound z)) xs)) → ((z : ℕ) → count_doc z xs ≤ 1) → are_safe bound xs ≡ true
all_safe bound [] order once = refl
all_safe bound (a ∷ []) order once = refl
all_safe bound (a ∷ b ∷ xs) order once =
    let leads : Leads (lift (one bound b.doc) a) (lift (one bound b.doc) b) = (order b.doc).0.0 in
    let here : lift (one bound b.doc) a ≡ a = same_hit (lift (one bound b.doc) a) a refl (let z = one_other bound b.doc a.doc apart in omega arith) in
    let there : lift (one bound b.doc) b ≡ gained bound b = same_hit (lift (one bound b.doc) b) (gained bound b) refl (let z = one_self bound b.doc in omega arith) in
    let safe = leads_safe bound a b apart (subst (λ (h : Hit). Leads a h) there (subst (λ (h : Hit). Leads h (lift (one bound b.doc) b)) here leads)) in
    let rest = all_safe bound (b ∷ xs) (λ z. (order z).1) fewer in
    rw (safe, rest) refl
  where
    fewer : (z : ℕ) → count_doc z (b ∷ xs) ≤ 1
    fewer z = let s = sum_by-cons (λ (h : Hit). cond (h.doc == z) 1 0) a (b ∷ xs) in let o = once z in omega arith

    apart : a.doc ≢ b.doc
    apart e = let s = count_own b.doc a (b ∷ xs) e in let t = count_own b.doc b xs refl in let o = once b.doc in omega arith

-- where the order is kept, each hit is safe from the next
pub settled_safe : (all : List Hit) (score_of : ℕ → ℕ) → IsTrueTo score_of all → ((d : ℕ) → count_doc d all ≤ 1) → (k bound : ℕ)
    → ((z : ℕ) → docs (front (with_gain bound z all) k) ≡ docs (front all k)) → are_safe bound (front all k) ≡ true
settled_safe all score_of true_all once k bound same = all_safe bound (front all k) (λ z. order_read all score_of true_all k bound z (same z))
    (λ z. let s = parted all k (λ (h : Hit). cond (h.doc == z) 1 0) in let o = once z in omega arith)
