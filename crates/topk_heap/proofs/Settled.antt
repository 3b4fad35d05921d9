-- The documents of a heap and those raised beside it, settled.
use Rattle.shared_lemmas.proofs.Common.{◌≡◌, ◌≢◌, ℕ, zero, suc, ◌+◌, ◌-◌, ◌<◌, ◌≤◌, ◌==◌, List, [], ◌∷◌, ◌++◌, length, map, take, get_or, set, Bool, true, false, refl, sym, ap, subst, ◌∙◌, arith, inl, inr, ◌⊎◌, eq-eqb, if◌then◌else◌, length-set, get_or-set_same, All, AllPairs, IsPermutation}
use Rattle.shared_lemmas.proofs.Common.{reverse, Contains, slice_get, AllByRecursion, cases_eq, nat_tests, get_or-reverse, length-map, length-reverse, length-take, length_permutation, IsPermutation-reverse, Option, take-append_seam, All-from_recursion}
use Rattle.std.proofs.lemmas.List.{get_or-set_other}
use Rattle.topk_heap.proofs.Below.{Hit, sorted, rank_cmp, first_ranked, runner_up, AreHitsOf, first_of_candidates}
use Rattle.shared_lemmas.proofs.Pairs.{Pairs, pairs_by_recursion, pairs_append}
use Rattle.shared_lemmas.proofs.Members.{In, in_from_contains, contains_from_in, all_at, all_in}
use Rattle.shared_lemmas.proofs.Lists.{all_weaker, all_append, all_map}
use Rattle.topk_heap.specs.Hits.{HitsView, hit_docs}
use Rattle.topk_heap.specs.Private.Settling.{hit_of, newcomers, rescored, with_places, without_places}
use Rattle.topk_heap.specs.Standing.{AreFirst, ArePlacesOf, HoldsFirst, HaveFirst, IsPlaced, IsTouched, TopStands, TopView, top_view, with_heap, without_heap}
use Rattle.topk_heap.specs.Private.Standing.{AreInOrder, IsTop}
use Rattle.topk_heap.proofs.Lists.{Has, doc_cases, in_append, in_left, in_right, in_map, in_reverse, in_reversed, all_by_index, all_reversed, pairs_index}
use Rattle.topk_heap.proofs.Ranking.{Apart, Own, first_in_order, first_own, heap_of, order_apart}

-- ---- newcomers

newcomers_all : (P : Hit → Type 0) (scores places docs : List ℕ) → ((doc : ℕ) → In doc docs → get_or places doc 0 ≡ 0 → P (hit_of scores doc)) → AllByRecursion P (newcomers scores places docs)
newcomers_all P scores places [] h = tt
newcomers_all P scores places (doc ∷ docs) h = by (cases_eq (get_or places doc 0) 0) (newcomers_all P scores places docs (λ d there none. h d (inr there) none)) where
  by : (get_or places doc 0 ≡ 0) ⊎ (get_or places doc 0 ≡ 0 → ⊥) → AllByRecursion P (newcomers scores places docs) → AllByRecursion P (newcomers scores places (doc ∷ docs))
  by (inl e) rest = let t : (get_or places doc 0 == 0) ≡ true = eq-eqb (get_or places doc 0) 0 e in rw t (h doc (inl refl) e, rest)
  by (inr some) rest = let f : (get_or places doc 0 == 0) ≡ false = grind (arith, nat_tests) in rw f rest

newcomers_apart : (scores places docs : List ℕ) → Pairs (λ a b. a ≢ b) docs → Pairs Apart (newcomers scores places docs)
newcomers_apart scores places [] apart = tt
newcomers_apart scores places (doc ∷ docs) apart = step (get_or places doc 0 == 0) (newcomers_apart scores places docs apart.1) where
  step : (b : Bool) → Pairs Apart (newcomers scores places docs) → Pairs Apart (if b then hit_of scores doc ∷ newcomers scores places docs else newcomers scores places docs)
  step true rest = (newcomers_all (λ h. Apart (hit_of scores doc) h) scores places docs (λ d there none. all_at (λ d. doc ≢ d) docs d apart.0 there), rest)
  step false rest = rest

newcomers_have : (scores places docs : List ℕ) (doc : ℕ) → In doc docs → get_or places doc 0 ≡ 0 → In (hit_of scores doc) (newcomers scores places docs)
newcomers_have scores places [] doc there none = absurd there
newcomers_have scores places (d ∷ docs) doc (inl e) none =
    let t : (get_or places d 0 == 0) ≡ true = eq-eqb (get_or places d 0) 0 (ap (λ x. get_or places x 0) (sym e) ∙ none) in
    rw t (inl (ap (λ x. hit_of scores x) e))
newcomers_have scores places (d ∷ docs) doc (inr there) none = step (get_or places d 0 == 0) (newcomers_have scores places docs doc there none) where
  step : (b : Bool) → In (hit_of scores doc) (newcomers scores places docs) → In (hit_of scores doc) (if b then hit_of scores d ∷ newcomers scores places docs else newcomers scores places docs)
  step true rest = inr rest
  step false rest = rest

-- without hits no document has a heap place
pub vacant_places : (row : List Hit) (places : List ℕ) → length row ≡ 0 → ArePlacesOf (reverse row) places → (doc : ℕ) → get_or places doc 0 ≡ 0
vacant_places [] places none placed doc = placed.outside doc tt
vacant_places (hit ∷ row) places none placed doc = absurd (omega (arith, none))

-- ---- candidates

pub row_placed : (row : List Hit) (places : List ℕ) → ArePlacesOf (reverse row) places → AllByRecursion (λ (h : Hit). get_or places h.doc 0 ≢ 0) row
row_placed row places placed =
    let zero_hit : Hit = record { doc = 0; score = 0 } in
    all_by_index (λ (h : Hit). get_or places h.doc 0 ≢ 0) zero_hit row (λ i inside none.
    let size : length (reverse row) ≡ length row = length-reverse row in
    let j : ℕ = length row - 1 - i in
    let same : get_or (reverse row) j zero_hit ≡ get_or row (length row - 1 - j) zero_hit = get_or-reverse row j zero_hit (omega arith) in
    let back : length row - 1 - j ≡ i = omega arith in
    let place : get_or places (get_or (reverse row) j zero_hit).doc 0 ≡ j + 1 = placed.inside j (omega arith) in
    let here : get_or places (get_or row i zero_hit).doc 0 ≡ j + 1 = ap (λ n. get_or places (get_or row n zero_hit).doc 0) (sym back) ∙ ap (λ (h : Hit). get_or places h.doc 0) (sym same) ∙ place in
    absurd (omega (arith, here, none)))

pairs_rescored : (scores : List ℕ) (row : List Hit) → Pairs Apart row → Pairs Apart (map (rescored scores) row)
pairs_rescored scores [] h = tt
pairs_rescored scores (x ∷ row) h = (all_map (λ y. Apart (rescored scores x) y) (rescored scores) row h.0, pairs_rescored scores row h.1)

module _ (scores places raised : List ℕ) (row : List Hit) (m : ℕ)
    (touched : AllByRecursion (λ (h : Hit). IsTouched scores h.doc) row) (apart : Pairs Apart row) (placed : ArePlacesOf (reverse row) places)
    (known : AllByRecursion (λ d. IsTouched scores d) raised) (once : Pairs (λ a b. a ≢ b) raised)
    (have : HaveFirst scores m (map (λ (h : Hit). h.doc) (reverse row) ++ raised)) where
  pub candidates_own : AllByRecursion (Own scores) (map (rescored scores) row ++ newcomers scores places raised)
  candidates_own = all_append (Own scores) (map (rescored scores) row) (newcomers scores places raised)
      (all_map (Own scores) (rescored scores) row (all_weaker (λ (h : Hit). IsTouched scores h.doc) (λ h. Own scores (rescored scores h)) (λ h is. (is.0, is.1, refl)) row touched))
      (newcomers_all (Own scores) scores places raised (λ d there none. let is = all_at (λ d. IsTouched scores d) raised d known there in (is.0, is.1, refl)))

  candidates_apart : Pairs Apart (map (rescored scores) row ++ newcomers scores places raised)
  candidates_apart =
      pairs_append Apart (map (rescored scores) row) (newcomers scores places raised) (pairs_rescored scores row apart) (newcomers_apart scores places raised once)
      (all_map (λ x. AllByRecursion (λ y. Apart x y) (newcomers scores places raised)) (rescored scores) row
      (all_weaker (λ (h : Hit). get_or places h.doc 0 ≢ 0) (λ h. AllByRecursion (λ y. Apart (rescored scores h) y) (newcomers scores places raised))
      (λ h some. newcomers_all (λ y. Apart (rescored scores h) y) scores places raised (λ d there none e. some (ap (λ x. get_or places x 0) e ∙ none)))
      row (row_placed row places placed)))

  are : AreHitsOf scores (map (rescored scores) row ++ newcomers scores places raised)
  are = record {
    scored = candidates_own;
    once = λ i j d up inside. pairs_index Apart (map (rescored scores) row ++ newcomers scores places raised) candidates_apart i j d up inside;
  }

  in_docs : (doc : ℕ) (hits : List Hit) → In doc (map (λ (h : Hit). h.doc) hits) → AllByRecursion (λ (h : Hit). h.doc ≢ doc) hits → ⊥
  in_docs doc [] there none = there
  in_docs doc (x ∷ hits) (inl e) none = none.0 (sym e)
  in_docs doc (x ∷ hits) (inr there) none = in_docs doc hits there none.1

  there : (h : Hit) → In h (first_ranked scores m) → Contains (map (rescored scores) row ++ newcomers scores places raised) h
  there h first = contains_from_in (map (rescored scores) row ++ newcomers scores places raised) h (by (doc_cases h.doc (reverse row))) where
    own : Own scores h
    own = all_at (Own scores) (first_ranked scores m) h (first_own scores m) first

    is : hit_of scores h.doc ≡ h
    is i = record { doc = h.doc; score = (sym own.2) i }

    among : In h.doc (map (λ (g : Hit). g.doc) (reverse row) ++ raised)
    among = in_from_contains (map (λ (g : Hit). g.doc) (reverse row) ++ raised) h.doc (all_at (λ (g : Hit). Contains (map (λ (f : Hit). f.doc) (reverse row) ++ raised) g.doc) (first_ranked scores m) h have first)

    outside : AllByRecursion (λ (g : Hit). g.doc ≢ h.doc) (reverse row) → In h.doc (map (λ (g : Hit). g.doc) (reverse row)) ⊎ In h.doc raised → In h (map (rescored scores) row ++ newcomers scores places raised)
    outside none (inl k) = absurd (in_docs h.doc (reverse row) k none)
    outside none (inr k) = in_right h (map (rescored scores) row) (newcomers scores places raised) (subst (λ g. In g (newcomers scores places raised)) is (newcomers_have scores places raised h.doc k (placed.outside h.doc none)))

    by : Has (reverse row) h.doc ⊎ AllByRecursion (λ (g : Hit). g.doc ≢ h.doc) (reverse row) → In h (map (rescored scores) row ++ newcomers scores places raised)
    by (inl has) = in_left h (map (rescored scores) row) (newcomers scores places raised)
        (subst (λ g. In g (map (rescored scores) row)) (ap (λ d. hit_of scores d) has.is ∙ is) (in_map (rescored scores) has.hit row (in_reverse has.hit row has.there)))
    by (inr none) = outside none (in_append h.doc (map (λ (g : Hit). g.doc) (reverse row)) raised among)

  pub settled : take m (sorted rank_cmp (map (rescored scores) row ++ newcomers scores places raised)) ≡ first_ranked scores m
  settled = first_of_candidates scores m (map (rescored scores) row ++ newcomers scores places raised) are (all_in (λ h. Contains (map (rescored scores) row ++ newcomers scores places raised) h) (first_ranked scores m) there)

-- ---- heap places

without_keeps : (hits : List Hit) (s : List ℕ) (d : ℕ) → get_or s d 0 ≡ 0 → get_or (without_places hits s) d 0 ≡ 0
without_keeps [] s d none = none
without_keeps (hit ∷ hits) s d none = without_keeps hits (set s hit.doc 0) d (cleared s hit.doc d none) where
  cleared : (s : List ℕ) (x d : ℕ) → get_or s d 0 ≡ 0 → get_or (set s x 0) d 0 ≡ 0
  cleared [] x d none = none
  cleared (y ∷ s) zero zero none = refl
  cleared (y ∷ s) zero (suc d) none = none
  cleared (y ∷ s) (suc x) zero none = none
  cleared (y ∷ s) (suc x) (suc d) none = cleared s x d none

at_once : (s : List ℕ) (d : ℕ) → get_or (set s d 0) d 0 ≡ 0
at_once [] d = refl
at_once (y ∷ s) zero = refl
at_once (y ∷ s) (suc d) = at_once s d

without_clears : (hits : List Hit) (s : List ℕ) (h : Hit) → In h hits → get_or (without_places hits s) h.doc 0 ≡ 0
without_clears [] s h there = absurd there
without_clears (hit ∷ hits) s h (inl e) = without_keeps hits (set s hit.doc 0) h.doc (ap (λ (g : Hit). get_or (set s hit.doc 0) g.doc 0) e ∙ at_once s hit.doc)
without_clears (hit ∷ hits) s h (inr there) = without_clears hits (set s hit.doc 0) h there

pub all_cleared : (scores places : List ℕ) (row : List Hit) → ArePlacesOf (reverse row) places → (d : ℕ) → get_or (without_places (map (rescored scores) row) places) d 0 ≡ 0
all_cleared scores places row placed d = by (doc_cases d (reverse row)) where
  by : Has (reverse row) d ⊎ AllByRecursion (λ (h : Hit). h.doc ≢ d) (reverse row) → get_or (without_places (map (rescored scores) row) places) d 0 ≡ 0
  by (inl has) = subst (λ x. get_or (without_places (map (rescored scores) row) places) x 0 ≡ 0) has.is
      (without_clears (map (rescored scores) row) places (rescored scores has.hit) (in_map (rescored scores) has.hit row (in_reverse has.hit row has.there)))
  by (inr none) = without_keeps (map (rescored scores) row) places d (placed.outside d none)

pub length-without : (hits : List Hit) (s : List ℕ) → length (without_places hits s) ≡ length s
length-without [] s = refl
length-without (hit ∷ hits) s = length-without hits (set s hit.doc 0) ∙ length-set s hit.doc 0

with_keeps : (hits : List Hit) (s : List ℕ) (d : ℕ) → AllByRecursion (λ (h : Hit). h.doc ≢ d) hits → get_or (with_places hits s) d 0 ≡ get_or s d 0
with_keeps [] s d apart = refl
with_keeps (hit ∷ hits) s d apart =
    with_keeps hits (set s hit.doc (1 + length hits)) d apart.1 ∙ get_or-set_other s hit.doc d (1 + length hits) 0 (λ e. apart.0 (sym e))

with_at : (hits : List Hit) (s : List ℕ) → Pairs Apart hits → AllByRecursion (λ (h : Hit). h.doc < length s) hits → (j : ℕ) (d : Hit) → j < length hits
    → get_or (with_places hits s) (get_or hits j d).doc 0 ≡ length hits - j
with_at [] s apart inside j d here = absurd (omega arith)
with_at (hit ∷ hits) s apart inside zero d here =
    with_keeps hits (set s hit.doc (1 + length hits)) hit.doc (all_weaker (λ h. Apart hit h) (λ (h : Hit). h.doc ≢ hit.doc) (λ h k e. k (sym e)) hits apart.0)
    ∙ get_or-set_same s hit.doc (1 + length hits) 0 inside.0 ∙ omega arith
with_at (hit ∷ hits) s apart inside (suc j) d here = with_at hits (set s hit.doc (1 + length hits)) apart.1
    (subst (λ n. AllByRecursion (λ (h : Hit). h.doc < n) hits) (sym (length-set s hit.doc (1 + length hits))) inside.1) j d (omega arith) ∙ omega arith

-- heap places that were all cleared, and those of some hits set
pub places_are : (row : List Hit) (s : List ℕ) → ((d : ℕ) → get_or s d 0 ≡ 0) → Pairs Apart row → AllByRecursion (λ (h : Hit). h.doc < length s) row → ArePlacesOf (reverse row) (with_places row s)
places_are row s none apart inside = record {
  inside = λ i here.
      let zero_hit : Hit = record { doc = 0; score = 0 } in
      let size : length (reverse row) ≡ length row = length-reverse row in
      ap (λ (h : Hit). get_or (with_places row s) h.doc 0) (get_or-reverse row i zero_hit (omega arith))
      ∙ with_at row s apart inside (length row - 1 - i) zero_hit (omega arith) ∙ omega arith;
  outside = λ d others.
      with_keeps row s d (all_in (λ (h : Hit). h.doc ≢ d) row (λ h there. all_at (λ (h : Hit). h.doc ≢ d) (reverse row) h others (in_reversed h row there))) ∙ none d;
}

-- ---- a settled heap

-- what settling asks for, over the hits in order
pub record Ready (scores places raised : List ℕ) (row : List Hit) (m : ℕ) : Type 0 where
  pub touched : AllByRecursion (λ (h : Hit). IsTouched scores h.doc) row
  pub apart : Pairs Apart row
  pub had : ArePlacesOf (reverse row) places
  pub known : AllByRecursion (λ d. IsTouched scores d) raised
  pub once : Pairs (λ a b. a ≢ b) raised
  pub have : HaveFirst scores m (map (λ (h : Hit). h.doc) (reverse row) ++ raised)

pub ready : {k : ℕ} {hits aside : HitsView} {top : TopView} {scores places : List ℕ} (raised : List ℕ) → top_view k hits ≡ top → IsTop k hits aside → IsPlaced top scores places
    → All (IsTouched scores) raised → AllPairs (λ a b. a ≢ b) raised → HaveFirst scores (top.k + 1) (with_heap top raised) → Ready scores places raised hits.hits (k + 1)
ready {k} {hits} {aside} {top} {scores} {places} raised view order placed known once have =
    let here : IsPlaced (top_view k hits) scores places = subst (λ (t : TopView). IsPlaced t scores places) (sym view) placed in
    record {
      touched = all_reversed (λ (h : Hit). IsTouched scores h.doc) hits.hits here.touched;
      apart = order_apart hits.hits order.order;
      had = here.placed;
      known = all_by_index (λ d. IsTouched scores d) 0 raised (λ i inside. known i 0 inside);
      once = pairs_by_recursion (λ a b. a ≢ b) raised once;
      have = subst (λ (t : TopView). HaveFirst scores (t.k + 1) (with_heap t raised)) (sym view) have;
    }

-- the same where no document has a heap place, and the heap is made anew
pub ready_anew : (k : ℕ) (hits : HitsView) {top : TopView} {scores places : List ℕ} (noted : List ℕ) → top_view k hits ≡ top → IsPlaced (without_heap top) scores places
    → All (IsTouched scores) noted → AllPairs (λ a b. a ≢ b) noted → HaveFirst scores (top.k + 1) noted → Ready scores places noted [] (k + 1)
ready_anew k hits {top} {scores} {places} noted view vacant known once have = record {
  touched = tt;
  apart = tt;
  had = vacant.placed;
  known = all_by_index (λ d. IsTouched scores d) 0 noted (λ i inside. known i 0 inside);
  once = pairs_by_recursion (λ a b. a ≢ b) noted once;
  have = subst (λ (t : TopView). HaveFirst scores (t.k + 1) noted) (sym view) have;
}

pub has_first : (k : ℕ) (hits : HitsView) (scores : List ℕ) → hits.hits ≡ first_ranked scores (k + 1) → HoldsFirst (top_view k hits) scores
has_first k hits scores new = subst (λ (xs : List Hit). IsPermutation xs (reverse hits.hits)) new (IsPermutation-reverse hits.hits)

pub new_are : {scores places raised : List ℕ} {row again gathered new : List Hit} {m : ℕ} → Ready scores places raised row m → again ≡ map (rescored scores) row → gathered ≡ again ++ newcomers scores places raised
    → new ≡ take m (sorted rank_cmp gathered) → new ≡ first_ranked scores m
new_are {scores} {places} {raised} {row} {m = m} ready one two three =
    three ∙ ap (λ (xs : List Hit). take m (sorted rank_cmp xs)) (two ∙ ap (λ (xs : List Hit). xs ++ newcomers scores places raised) one)
    ∙ settled scores places raised row m ready.touched ready.apart ready.had ready.known ready.once ready.have

pub standing_are : (scores : List ℕ) (row again gathered front more : List Hit) (n : ℕ) → again ≡ map (rescored scores) row → gathered ≡ again ++ more → front ≡ gathered → n ≡ length row → take n front ≡ map (rescored scores) row
standing_are scores row again gathered front more n one two three size = ap (λ i. take i front) (size ∙ sym (length-map row (rescored scores)))
    ∙ ap (λ (xs : List Hit). take (length (map (rescored scores) row)) xs) (three ∙ two ∙ ap (λ (xs : List Hit). xs ++ more) one)
    ∙ take-append_seam (map (rescored scores) row) more

-- the hits have documents with scores
pub row_touched : (scores : List ℕ) (row xs : List Hit) → AllByRecursion (λ (h : Hit). IsTouched scores h.doc) row → xs ≡ map (rescored scores) row → (i : ℕ) (d : Hit) → i < length xs → IsTouched scores (get_or xs i d).doc
row_touched scores row xs touched is i d inside = All-from_recursion (λ (h : Hit). IsTouched scores h.doc) xs
    (subst (λ (ys : List Hit). AllByRecursion (λ (h : Hit). IsTouched scores h.doc) ys) (sym is) (all_map (λ (h : Hit). IsTouched scores h.doc) (rescored scores) row touched)) i d inside

first_touched : (scores : List ℕ) (m : ℕ) → AllByRecursion (λ (h : Hit). IsTouched scores h.doc) (first_ranked scores m)
first_touched scores m = all_weaker (Own scores) (λ (h : Hit). IsTouched scores h.doc) (λ h own. (own.0, subst (λ n. 1 ≤ n) own.2 own.1)) (first_ranked scores m) (first_own scores m)

pub new_touched : (scores : List ℕ) (new xs : List Hit) (m : ℕ) → new ≡ first_ranked scores m → xs ≡ new → (i : ℕ) (d : Hit) → i < length xs → IsTouched scores (get_or xs i d).doc
new_touched scores new xs m is same i d inside =
    All-from_recursion (λ (h : Hit). IsTouched scores h.doc) xs (subst (λ (ys : List Hit). AllByRecursion (λ (h : Hit). IsTouched scores h.doc) ys) (sym (same ∙ is)) (first_touched scores m)) i d inside

pub stands_settled : (k : ℕ) (hits : HitsView) (scores scores' places cleared places' raised : List ℕ) (row sliced front : List Hit) → Ready scores places raised row (k + 1) → length places ≡ length scores
    → sliced ≡ map (rescored scores) row → cleared ≡ without_places sliced places → hits.hits ≡ first_ranked scores (k + 1) → front ≡ hits.hits → places' ≡ with_places front cleared → scores' ≡ scores
    → TopStands (top_view k hits) scores' places'
stands_settled k hits scores scores' places cleared places' raised row sliced front ready size one two new same three scores_same =
    let m : ℕ = k + 1 in
    let without : List ℕ = without_places (map (rescored scores) row) places in
    let order : AreInOrder hits.hits = subst AreInOrder (sym new) (first_in_order scores m) in
    let inside : AllByRecursion (λ (h : Hit). h.doc < length without) hits.hits =
    subst (λ (ys : List Hit). AllByRecursion (λ (h : Hit). h.doc < length without) ys) (sym new)
    (all_weaker (Own scores) (λ (h : Hit). h.doc < length without) (λ h own. let n = length-without (map (rescored scores) row) places in let o = own.0 in omega arith) (first_ranked scores m) (first_own scores m)) in
    record {
      hits = subst (λ (xs : List Hit). IsPermutation xs (reverse hits.hits)) (new ∙ ap (λ s. first_ranked s m) (sym scores_same)) (IsPermutation-reverse hits.hits);
      heap = heap_of hits.hits order;
      placed = subst (λ p. ArePlacesOf (reverse hits.hits) p) (sym (three ∙ ap (λ (xs : List Hit). with_places xs cleared) same ∙ ap (λ p. with_places hits.hits p) (two ∙ ap (λ (xs : List Hit). without_places xs places) one)))
          (places_are hits.hits without (all_cleared scores places row ready.had) (order_apart hits.hits order) inside);
    }

pub within : (doc n m : ℕ) → n ≡ m → doc < n → doc < m
within doc n m same inside = omega arith

pub some_still : (doc : ℕ) (old new : List ℕ) → new ≡ old → 1 ≤ get_or old doc 0 → 0 < get_or new doc 0
some_still doc old new same some = omega (arith, some, ap (λ (s : List ℕ). get_or s doc 0) same)

-- ---- a cut

-- where no document has a heap place all are newcomers
all_new : (scores docs : List ℕ) → newcomers scores [] docs ≡ map (hit_of scores) docs
all_new scores [] = refl
all_new scores (doc ∷ docs) = ap (λ (hits : List Hit). hit_of scores doc ∷ hits) (all_new scores docs)

in_front : (i : ℕ) (xs : List Hit) (n : ℕ) → i < n → slice_get (take n xs) i ≡ slice_get xs i
in_front i [] n below = none_there n i where
  none_there : (n i : ℕ) → slice_get {X = Hit} (take n []) i ≡ slice_get {X = Hit} [] i
  none_there zero i = refl
  none_there (suc n) i = refl
in_front i (x ∷ xs) zero below = absurd (omega arith)
in_front zero (x ∷ xs) (suc n) below = refl
in_front (suc i) (x ∷ xs) (suc n) below = in_front i xs n (omega arith)

pub noted_within : (scores noted seen : List ℕ) (n : ℕ) → All (IsTouched scores) noted → seen ≡ noted → length scores ≡ n → All (λ doc. doc < n) seen
noted_within scores noted seen n known same size = subst (λ (xs : List ℕ). All (λ doc. doc < n) xs) (sym same) (λ i d here. within _ _ _ size (known i d here).0)

module _ (scores noted : List ℕ) {seen : List ℕ} (top : TopView) (none gathered : List Hit) (k : ℕ) (known : All (IsTouched scores) noted) (once : AllPairs (λ a b. a ≢ b) noted) (have : HaveFirst scores (top.k + 1) noted)
    (seen_is : seen ≡ noted) (cleared : none ≡ []) (is : gathered ≡ none ++ map (hit_of scores) seen) (same : k ≡ top.k) where
  vacant : ArePlacesOf [] []
  vacant = record { inside = λ i inside. absurd (omega (arith, inside)); outside = λ doc others. refl }

  first_gathered : take (k + 1) (sorted rank_cmp gathered) ≡ first_ranked scores (k + 1)
  first_gathered =
      ap (λ (xs : List Hit). take (k + 1) (sorted rank_cmp xs)) (is ∙ ap (λ (xs : List Hit). xs ++ map (hit_of scores) seen) cleared ∙ ap (map (hit_of scores)) seen_is ∙ sym (all_new scores noted))
      ∙ settled scores [] noted [] (k + 1) tt tt vacant (all_by_index (λ d. IsTouched scores d) 0 noted (λ i inside. known i 0 inside)) (pairs_by_recursion (λ a b. a ≢ b) noted once)
      (subst (λ n. HaveFirst scores (n + 1) noted) (sym same) have)

  pub next_gathered : (o : Option Hit) → o ≡ slice_get (sorted rank_cmp gathered) k → o ≡ runner_up scores top.k
  next_gathered o told = told ∙ sym (in_front k (sorted rank_cmp gathered) (k + 1) (omega arith)) ∙ ap (λ (xs : List Hit). slice_get xs k) first_gathered ∙ ap (runner_up scores) same

  pub docs_gathered : (docs : List ℕ) → IsPermutation (hit_docs (take (k + 1) (sorted rank_cmp gathered))) docs → AreFirst scores (top.k + 1) docs
  docs_gathered docs moved = subst (λ n. AreFirst scores (n + 1) docs) same (subst (λ (xs : List Hit). IsPermutation (hit_docs xs) docs) first_gathered moved)

  pub few_gathered : (docs : List ℕ) → IsPermutation (hit_docs (take (k + 1) (sorted rank_cmp gathered))) docs → length docs ≤ top.k + 1
  few_gathered docs moved =
      omega (arith, same, length_permutation (hit_docs (take (k + 1) (sorted rank_cmp gathered))) docs moved, length-map (take (k + 1) (sorted rank_cmp gathered)) (λ (h : Hit). h.doc), length-take (k + 1) (sorted rank_cmp gathered))
