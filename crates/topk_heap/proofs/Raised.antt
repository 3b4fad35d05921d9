-- A heap that stood before scores rose.
use Rattle.shared_lemmas.proofs.Common.{◌≡◌, ℕ, zero, suc, ◌+◌, ◌<◌, ◌≤◌, List, [], ◌∷◌, length, map, take, get_or, set, refl, sym, ap, subst, ◌∙◌, arith, inl, inr, ◌⊎◌, length-set, get_or-set_same, All, IsPermutation, replicate, Contains, AllByRecursion, cases_eq, All-cons, All-nil}
use Rattle.shared_lemmas.proofs.Common.{All-from_recursion, All-permutation, Contains-permutation, IsPermutation-refl}
use Rattle.std.proofs.lemmas.List.{get_or-set_other}
use Rattle.topk_heap.proofs.Below.{Hit, sorted, rank_cmp, hits_from, first_ranked, rises}
use Rattle.shared_lemmas.proofs.Members.{In, in_from_contains, contains_from_in, all_in}
use Rattle.shared_lemmas.proofs.Lists.{all_weaker}
use Rattle.topk_heap.specs.Standing.{HaveFirst, IsPlaced, IsTouched, TopStands, TopView, with_heap}
use Rattle.topk_heap.proofs.Ahead.{Rises, first_before}
use Rattle.topk_heap.proofs.Lists.{all_by_index, in_left, in_map, in_right}
use Rattle.topk_heap.proofs.Ranking.{Own, first_own}

-- the documents have scores after all rose
pub placed_after : (top : TopView) (old scores places : List ℕ) → length old ≡ length scores → Rises old scores → TopStands top old places → IsPlaced top scores places
placed_after top old scores places size up stands =
    let m : ℕ = top.k + 1 in
    let has : AllByRecursion (λ (h : Hit). IsTouched scores h.doc) (first_ranked old m) =
    all_weaker (Own old) (λ (h : Hit). IsTouched scores h.doc) (λ h own. let a = own.0 in let b = own.1 in let c = own.2 in let d = up h.doc in (omega arith, omega arith)) (first_ranked old m) (first_own old m) in
    record {
      touched = all_by_index (λ (h : Hit). IsTouched scores h.doc) (record { doc = 0; score = 0 }) top.hits
          (λ i inside. All-permutation (λ (h : Hit). IsTouched scores h.doc) (first_ranked old m) top.hits stands.hits (λ k d here. All-from_recursion (λ (h : Hit). IsTouched scores h.doc) (first_ranked old m) has k d here) i (record { doc = 0; score = 0 }) inside);
      placed = stands.placed;
    }

pub heap_has : (top : TopView) (old places docs : List ℕ) (x : Hit) → TopStands top old places → In x (first_ranked old (top.k + 1)) → In x.doc (with_heap top docs)
heap_has top old places docs x stands there = in_left x.doc (map (λ (h : Hit). h.doc) top.hits) docs (in_map (λ (h : Hit). h.doc) x top.hits
    (in_from_contains top.hits x (Contains-permutation (first_ranked old (top.k + 1)) top.hits x stands.hits (contains_from_in (first_ranked old (top.k + 1)) x there))))

-- ---- one document rose

module _ (scores new : List ℕ) (doc w : ℕ) (is : new ≡ set scores doc (get_or scores doc 0 + w)) where
  size : length scores ≡ length new
  size = sym (ap (λ (s : List ℕ). length s) is ∙ length-set scores doc (get_or scores doc 0 + w))

  up : Rises scores new
  up d = subst (λ (s : List ℕ). get_or scores d 0 ≤ get_or s d 0) (sym is) (rises scores doc d w)

  pub one_placed : (top : TopView) (places places' : List ℕ) → TopStands top scores places → places' ≡ places → IsPlaced top new places'
  one_placed top places places' stands same = subst (λ (p : List ℕ). IsPlaced top new p) (sym same) (placed_after top scores new places size up stands)

  pub one_touched : doc < length scores → 1 ≤ w → All (IsTouched new) (doc ∷ [])
  one_touched inside some =
      let score : get_or new doc 0 ≡ get_or scores doc 0 + w = ap (λ (s : List ℕ). get_or s doc 0) is ∙ get_or-set_same scores doc (get_or scores doc 0 + w) 0 inside in
      let same = size in
      let touched : IsTouched new doc = (omega (arith, inside, same), omega (arith, score, some)) in
      All-cons (IsTouched new) doc [] touched (All-nil (IsTouched new))

  pub one_first : (top : TopView) (places : List ℕ) → TopStands top scores places → HaveFirst new (top.k + 1) (with_heap top (doc ∷ []))
  one_first top places stands = all_in (λ (h : Hit). Contains (with_heap top (doc ∷ [])) h.doc) (first_ranked new (top.k + 1)) (λ h there. contains_from_in (with_heap top (doc ∷ [])) h.doc (by h there (cases_eq h.doc doc))) where
    by : (h : Hit) → In h (first_ranked new (top.k + 1)) → (h.doc ≡ doc) ⊎ (h.doc ≡ doc → ⊥) → In h.doc (with_heap top (doc ∷ []))
    by h there (inl e) = in_right h.doc (map (λ (g : Hit). g.doc) top.hits) (doc ∷ []) (inl e)
    by h there (inr apart) = heap_has top scores places (doc ∷ []) h stands (first_before scores new (top.k + 1) h size up there
        (sym (ap (λ (s : List ℕ). get_or s h.doc 0) is ∙ get_or-set_other scores doc h.doc (get_or scores doc 0 + w) 0 apart)))

-- ---- nothing has a score

pub no_hits : (from n : ℕ) → hits_from from (replicate n 0) ≡ []
no_hits from zero = refl
no_hits from (suc n) = no_hits (from + 1) n

pub empty_stands : (top : TopView) (n : ℕ) → top.hits ≡ [] → TopStands top (replicate n 0) (replicate n 0)
empty_stands top n empty =
    let none : first_ranked (replicate n 0) (top.k + 1) ≡ [] = ap (λ (xs : List Hit). take (top.k + 1) (sorted rank_cmp xs)) (no_hits 0 n) ∙ take-nil (top.k + 1) in
    record {
      hits = subst (λ (xs : List Hit). IsPermutation xs top.hits) (empty ∙ sym none) (IsPermutation-refl top.hits);
      heap = λ i some inside. let e = ap (λ (xs : List Hit). length xs) empty in absurd (omega arith);
      placed = record { inside = λ i inside. let e = ap (λ (xs : List Hit). length xs) empty in absurd (omega arith); outside = λ doc others. zeros n doc };
    }
  where
    take-nil : (m : ℕ) → take {A = Hit} m [] ≡ []
    take-nil zero = refl
    take-nil (suc m) = refl

    zeros : (n doc : ℕ) → ◌≡◌ {A = ℕ} (get_or {A = ℕ} (replicate n 0) doc 0) 0
    zeros zero doc = refl
    zeros (suc n) zero = refl
    zeros (suc n) (suc doc) = zeros n doc
