-- The ranking from a part of the hits of some scores, and from candidates among which the first are.
use Rattle.shared_lemmas.proofs.Common.{◌≡◌, ◌≢◌, ℕ, zero, suc, ◌+◌, ◌<◌, ◌≤◌, ◌==◌, List, [], ◌∷◌, ◌++◌, length, take, drop, get_or, sum_by, count_by, Bool, true, false, cond, refl, sym, ap, subst, ◌∙◌, arith, inl, inr, ◌⊎◌, eq-eqb, if◌then◌else◌, IsPermutation, IsSorted, Contains, nat_le}
use Rattle.shared_lemmas.proofs.Common.{AllByRecursion, Ordering, is_gt, IsAntisymmetric, IsTotalOrder, cases_lt, cases_eq, nat_tests, take_all, length-take, sum_by-IsPermutation, length_permutation, IsPermutation-refl, IsPermutation-cons, IsPermutation-trans, IsPermutation-middle}
use Rattle.shared_lemmas.proofs.Common.{IsPermutation-append_left, IsPermutation-append_right, sum_by-cons, sum_by-append, sum_by-take-le, take-append_seam, drop_of_length-le}
use Rattle.std.proofs.lemmas.List.{append-nil}
use Rattle.shared_lemmas.proofs.Pairs.{Pairs, pairs_by_recursion}
use Rattle.shared_lemmas.proofs.Members.{In, in_from_contains, all_at, all_in}
use Rattle.shared_lemmas.proofs.Lists.{all_weaker, all_take, all_drop}
use Rattle.jass_base.specs.declared.answer.Hit.{Hit}
use Rattle.ranking_model.specs.Order.{placed, sorted}
use Rattle.ranking_model.specs.Scores.{rank_cmp, hits_from, first_ranked, AreAhead, AreHitsOf, HaveAllFrom}
use Rattle.ranking_model.proofs.Sorting.{Ascends, sorted_ascends, sorted_ascending, sorted_is_permutation, sort_is_sorted, all_sorted, ascends_append, sum_by-sorted}
use Rattle.ranking_model.proofs.Orders.{rank_total, rank_same}

-- ---- lists of two parts

pub ascends_take : {A : Type 0} (cmp : A → A → Ordering) (n : ℕ) (xs : List A) → Ascends cmp xs → Ascends cmp (take n xs)
ascends_take cmp zero xs h = tt
ascends_take cmp (suc n) [] h = tt
ascends_take cmp (suc n) (x ∷ xs) h = (all_take (λ y. is_gt (cmp x y) ≡ false) n xs h.0, ascends_take cmp n xs h.1)

pub take_before_drop : {A : Type 0} (cmp : A → A → Ordering) (n : ℕ) (xs : List A) → Ascends cmp xs → AllByRecursion (λ a. AllByRecursion (λ b. is_gt (cmp a b) ≡ false) (drop n xs)) (take n xs)
take_before_drop cmp zero xs h = tt
take_before_drop cmp (suc n) [] h = tt
take_before_drop cmp (suc n) (x ∷ xs) h = (all_drop (λ y. is_gt (cmp x y) ≡ false) n xs h.0, take_before_drop cmp n xs h.1)

module _ {A : Type 0} (cmp : A → A → Ordering) (o : IsTotalOrder cmp) (same : IsAntisymmetric cmp) where
  two_parts : (all xs ys : List A) → IsPermutation all (xs ++ ys) → AllByRecursion (λ a. AllByRecursion (λ b. is_gt (cmp a b) ≡ false) ys) xs → sorted cmp all ≡ sorted cmp xs ++ sorted cmp ys
  two_parts all xs ys moved above = sym (sort_is_sorted cmp o same all (sorted cmp xs ++ sorted cmp ys) items (sorted_ascending cmp o (sorted cmp xs ++ sorted cmp ys) order)) where
    items : IsPermutation all (sorted cmp xs ++ sorted cmp ys)
    items = IsPermutation-trans all (xs ++ ys) (sorted cmp xs ++ sorted cmp ys) moved
        (IsPermutation-trans (xs ++ ys) (sorted cmp xs ++ ys) (sorted cmp xs ++ sorted cmp ys)
        (IsPermutation-append_left ys xs (sorted cmp xs) (sorted_is_permutation cmp xs)) (IsPermutation-append_right (sorted cmp xs) ys (sorted cmp ys) (sorted_is_permutation cmp ys)))

    order : Ascends cmp (sorted cmp xs ++ sorted cmp ys)
    order = ascends_append cmp (sorted cmp xs) (sorted cmp ys) (sorted_ascends cmp o xs) (sorted_ascends cmp o ys)
        (all_sorted cmp (λ a. AllByRecursion (λ b. is_gt (cmp a b) ≡ false) (sorted cmp ys)) xs
        (all_weaker (λ a. AllByRecursion (λ b. is_gt (cmp a b) ≡ false) ys) (λ a. AllByRecursion (λ b. is_gt (cmp a b) ≡ false) (sorted cmp ys)) (λ a h. all_sorted cmp (λ b. is_gt (cmp a b) ≡ false) ys h) xs above))

  pub first_part : (all xs ys : List A) (m : ℕ) → IsPermutation all (xs ++ ys) → AllByRecursion (λ a. AllByRecursion (λ b. is_gt (cmp a b) ≡ false) ys) xs
      → length xs ≤ m → (length xs < m → ys ≡ []) → sorted cmp xs ≡ take m (sorted cmp all)
  first_part all xs ys m moved above few rest = sym (ap (take m) (two_parts all xs ys moved above) ∙ cut (cases_lt (length xs) m)) where
    size : length (sorted cmp xs) ≡ length xs
    size = length_permutation xs (sorted cmp xs) (sorted_is_permutation cmp xs)

    cut : (length xs < m) ⊎ (m ≤ length xs) → take m (sorted cmp xs ++ sorted cmp ys) ≡ sorted cmp xs
    cut (inl k) =
        ap (λ (l : List A). take m (sorted cmp xs ++ sorted cmp l)) (rest k) ∙ ap (take m) (append-nil (sorted cmp xs)) ∙ take_all m (sorted cmp xs) (let n = size in omega arith)
    cut (inr k) =
        let n : m ≡ length (sorted cmp xs) = (let s = size in omega arith) in
        ap (λ i. take i (sorted cmp xs ++ sorted cmp ys)) n ∙ take-append_seam (sorted cmp xs) (sorted cmp ys)

  pub sorted_is_itself : (xs : List A) → IsSorted cmp xs → sorted cmp xs ≡ xs
  sorted_is_itself xs order = sym (sort_is_sorted cmp o same xs xs (IsPermutation-refl xs) order)

-- ---- being in a list

in_placed : {A : Type 0} (cmp : A → A → Ordering) (z x : A) (ys : List A) → (z ≡ x) ⊎ In z ys → In z (placed cmp x ys)
in_placed cmp z x [] h = h
in_placed {A} cmp z x (y ∷ ys) h = step (is_gt (cmp x y)) h (λ k. in_placed cmp z x ys k) where
  step : (b : Bool) → (z ≡ x) ⊎ ((z ≡ y) ⊎ In z ys) → ((z ≡ x) ⊎ In z ys → In z (placed cmp x ys)) → In z (if b then y ∷ placed cmp x ys else x ∷ y ∷ ys)
  step true (inl e) later = inr (later (inl e))
  step true (inr (inl e)) later = inl e
  step true (inr (inr there)) later = inr (later (inr there))
  step false k later = k

pub in_sorted : {A : Type 0} (cmp : A → A → Ordering) (z : A) (xs : List A) → In z xs → In z (sorted cmp xs)
in_sorted cmp z [] h = h
in_sorted cmp z (x ∷ xs) (inl e) = in_placed cmp z x (sorted cmp xs) (inl e)
in_sorted cmp z (x ∷ xs) (inr there) = in_placed cmp z x (sorted cmp xs) (inr (in_sorted cmp z xs there))

pub in_part : {A : Type 0} (z : A) (n : ℕ) (xs : List A) → In z xs → In z (take n xs) ⊎ In z (drop n xs)
in_part z n [] h = absurd h
in_part z zero (x ∷ xs) h = inr h
in_part z (suc n) (x ∷ xs) (inl e) = inl (inl e)
in_part z (suc n) (x ∷ xs) (inr there) = elim (in_part z n xs there) [ inl k ↦ inl (inr k) | inr k ↦ inr k ]

-- ---- an item of a list, put in front

pub record Pulled {A : Type 0} (x : A) (xs : List A) : Type 0 where
  pub rest : List A
  pub moved : IsPermutation xs (x ∷ rest)
  pub back : (y : A) → In y rest → In y xs
  pub left : (y : A) → In y xs → (y ≡ x) ⊎ In y rest

pull : {A : Type 0} (x : A) (xs : List A) → In x xs → Pulled x xs
pull x [] h = absurd h
pull {A} x (y ∷ ys) (inl e) = record {
  rest = ys;
  moved = subst (λ z. IsPermutation (y ∷ ys) (z ∷ ys)) (sym e) (IsPermutation-refl (y ∷ ys));
  back = λ z there. inr there;
  left = λ z there. turn z there;
}
  where
    turn : (z : A) → (z ≡ y) ⊎ In z ys → (z ≡ x) ⊎ In z ys
    turn z (inl f) = inl (f ∙ sym e)
    turn z (inr k) = inr k
pull {A} x (y ∷ ys) (inr h) = behind y ys (pull x ys h) where
  behind : (y : A) (ys : List A) → Pulled x ys → Pulled x (y ∷ ys)
  behind y ys pulled = record {
    rest = y ∷ pulled.rest;
    moved = IsPermutation-trans (y ∷ ys) (y ∷ x ∷ pulled.rest) (x ∷ y ∷ pulled.rest) (IsPermutation-cons y ys (x ∷ pulled.rest) pulled.moved) (IsPermutation-middle (y ∷ []) x pulled.rest);
    back = λ z there. back z there;
    left = λ z there. turn z there;
  }
    where
      back : (z : A) → (z ≡ y) ⊎ In z pulled.rest → (z ≡ y) ⊎ In z ys
      back z (inl e) = inl e
      back z (inr k) = inr (pulled.back z k)

      turn : (z : A) → (z ≡ y) ⊎ In z ys → (z ≡ x) ⊎ ((z ≡ y) ⊎ In z pulled.rest)
      turn z (inl e) = inr (inl e)
      turn z (inr k) = elim (pulled.left z k) [ inl e ↦ inl e | inr l ↦ inr (inr l) ]

pub record Parted {A : Type 0} (front xs : List A) : Type 0 where
  pub others : List A
  pub moved : IsPermutation xs (front ++ others)
  pub back : (y : A) → In y others → In y xs

part : {A : Type 0} (front xs : List A) → Pairs (λ a b. a ≢ b) front → AllByRecursion (λ x. In x xs) front → Parted front xs
part [] xs apart h = record { others = xs; moved = IsPermutation-refl xs; back = λ y there. there }
part {A} (x ∷ front) xs apart h = with_first (pull x xs h.0) (λ rest k. part front rest apart.1 k) where
  with_first : Pulled x xs → ((rest : List A) → AllByRecursion (λ y. In y rest) front → Parted front rest) → Parted (x ∷ front) xs
  with_first pulled parted = behind (parted pulled.rest (still front apart.0 h.1)) where
    still : (ys : List A) → AllByRecursion (λ y. x ≢ y) ys → AllByRecursion (λ y. In y xs) ys → AllByRecursion (λ y. In y pulled.rest) ys
    still [] a b = tt
    still (y ∷ ys) a b = (by (pulled.left y b.0), still ys a.1 b.1) where
      by : (y ≡ x) ⊎ In y pulled.rest → In y pulled.rest
      by (inl e) = absurd (a.0 (sym e))
      by (inr k) = k

    behind : Parted front pulled.rest → Parted (x ∷ front) xs
    behind later = record {
      others = later.others;
      moved = IsPermutation-trans xs (x ∷ pulled.rest) (x ∷ (front ++ later.others)) pulled.moved (IsPermutation-cons x pulled.rest (front ++ later.others) later.moved);
      back = λ y there. pulled.back y (later.back y there);
    }

-- ---- hits of different documents

abbrev pub count_doc : ℕ → List Hit → ℕ
count_doc d hits = sum_by (λ (h : Hit). cond (h.doc == d) 1 0) hits

counted : (d : ℕ) (hits : List Hit) (h : Hit) → h.doc ≡ d → In h hits → 1 ≤ count_doc d hits
counted d [] h is there = absurd there
counted d (x ∷ xs) h is (inl e) =
    let s = sum_by-cons (λ (h : Hit). cond (h.doc == d) 1 0) x xs in
    let t : (x.doc == d) ≡ true = eq-eqb x.doc d (ap (λ (h : Hit). h.doc) (sym e) ∙ is) in
    rw (s, t) (omega arith)
counted d (x ∷ xs) h is (inr k) = let s = sum_by-cons (λ (h : Hit). cond (h.doc == d) 1 0) x xs in let rest = counted d xs h is k in omega arith

not_counted : (d : ℕ) (hits : List Hit) → AllByRecursion (λ (h : Hit). d ≢ h.doc) hits → count_doc d hits ≡ 0
not_counted d [] h = refl
not_counted d (x ∷ xs) h =
    let s = sum_by-cons (λ (h : Hit). cond (h.doc == d) 1 0) x xs in
    let apart : d ≢ x.doc = h.0 in
    let f : (x.doc == d) ≡ false = grind (arith, nat_tests) in
    let rest = not_counted d xs h.1 in
    rw (s, f) (omega arith)

counted_once : (d : ℕ) (hits : List Hit) → Pairs (λ (a b : Hit). a.doc ≢ b.doc) hits → count_doc d hits ≤ 1
counted_once d [] h = omega arith
counted_once d (x ∷ xs) h = by (cases_eq x.doc d) (counted_once d xs h.1) where
  split : count_doc d (x ∷ xs) ≡ cond (x.doc == d) 1 0 + count_doc d xs
  split = sum_by-cons (λ (h : Hit). cond (h.doc == d) 1 0) x xs

  by : (x.doc ≡ d) ⊎ (x.doc ≡ d → ⊥) → count_doc d xs ≤ 1 → count_doc d (x ∷ xs) ≤ 1
  by (inl e) rest =
      let none = not_counted x.doc xs h.0 in
      let same : count_doc d xs ≡ 0 = sym (ap (λ n. count_doc n xs) e) ∙ none in
      let t : (x.doc == d) ≡ true = eq-eqb x.doc d e in
      rw (split, t) (omega arith)
  by (inr apart) rest = let f : (x.doc == d) ≡ false = grind (arith, nat_tests) in rw (split, f) (omega arith)

apart_once : (hits : List Hit) → ((d : ℕ) → count_doc d hits ≤ 1) → Pairs (λ (a b : Hit). a ≢ b) hits
apart_once [] once = tt
apart_once (x ∷ xs) once = (all_in (λ y. x ≢ y) xs (λ y there same. double y there (ap (λ (h : Hit). h.doc) (sym same))), apart_once xs (λ d. fewer d)) where
  double : (y : Hit) → In y xs → y.doc ≡ x.doc → ⊥
  double y there is =
      let s = sum_by-cons (λ (h : Hit). cond (h.doc == x.doc) 1 0) x xs in
      let t : ◌≡◌ {A = ℕ} (cond (x.doc == x.doc) 1 0) 1 = ap (λ (b : Bool). cond {A = ℕ} b 1 0) (eq-eqb x.doc x.doc refl) in
      let one = counted x.doc xs y is there in
      let few = once x.doc in
      absurd (omega arith)

  fewer : (d : ℕ) → count_doc d xs ≤ 1
  fewer d = let s = sum_by-cons (λ (h : Hit). cond (h.doc == d) 1 0) x xs in let few = once d in omega arith

-- ---- the hits of some scores

hits_none_below : (d from : ℕ) (scores : List ℕ) → d < from → count_doc d (hits_from from scores) ≡ 0
hits_none_below d from [] below = refl
hits_none_below d from (score ∷ scores) below = step (score == 0) (hits_none_below d (from + 1) scores (omega arith)) where
  step : (b : Bool) → count_doc d (hits_from (from + 1) scores) ≡ 0 → count_doc d (if b then hits_from (from + 1) scores else record { doc = from; score = score } ∷ hits_from (from + 1) scores) ≡ 0
  step true rest = rest
  step false rest =
      let s = sum_by-cons (λ (h : Hit). cond (h.doc == d) 1 0) (record { doc = from; score = score }) (hits_from (from + 1) scores) in
      let f : (from == d) ≡ false = grind (arith, nat_tests) in
      rw (s, f) (omega (arith, rest))

hits_once : (d from : ℕ) (scores : List ℕ) → count_doc d (hits_from from scores) ≤ 1
hits_once d from [] = omega arith
hits_once d from (score ∷ scores) = step (score == 0) (hits_once d (from + 1) scores) where
  step : (b : Bool) → count_doc d (hits_from (from + 1) scores) ≤ 1 → count_doc d (if b then hits_from (from + 1) scores else record { doc = from; score = score } ∷ hits_from (from + 1) scores) ≤ 1
  step true rest = rest
  step false rest = by (cases_eq from d) where
    split : count_doc d (record { doc = from; score = score } ∷ hits_from (from + 1) scores) ≡ cond (from == d) 1 0 + count_doc d (hits_from (from + 1) scores)
    split = sum_by-cons (λ (h : Hit). cond (h.doc == d) 1 0) (record { doc = from; score = score }) (hits_from (from + 1) scores)

    by : (from ≡ d) ⊎ (from ≡ d → ⊥) → count_doc d (record { doc = from; score = score } ∷ hits_from (from + 1) scores) ≤ 1
    by (inl e) = let none = hits_none_below d (from + 1) scores (omega arith) in let t : (from == d) ≡ true = eq-eqb from d e in rw (split, t) (omega arith)
    by (inr apart) = let f : (from == d) ≡ false = grind (arith, nat_tests) in rw (split, f) (omega arith)

pub in_hits : (from : ℕ) (scores : List ℕ) (h : Hit) (i : ℕ) → h.doc ≡ from + i → i < length scores → 1 ≤ h.score → h.score ≡ get_or scores i 0 → In h (hits_from from scores)
in_hits from [] h i is inside some score_is = absurd (omega arith)
in_hits from (score ∷ scores) h zero is inside some score_is =
    let f : (score == 0) ≡ false = grind (arith, nat_tests) in
    let doc : h.doc ≡ from = omega arith in
    rw f (inl (λ j. record { doc = doc j; score = score_is j }))
in_hits from (score ∷ scores) h (suc i) is inside some score_is = step (score == 0) (in_hits (from + 1) scores h i (omega arith) (omega arith) some score_is) where
  step : (b : Bool) → In h (hits_from (from + 1) scores) → In h (if b then hits_from (from + 1) scores else record { doc = from; score = score } ∷ hits_from (from + 1) scores)
  step true rest = rest
  step false rest = inr rest

-- ---- candidates

module _ (scores : List ℕ) (m : ℕ) (candidates : List Hit) (are : AreHitsOf scores candidates) (there : AllByRecursion (λ hit. Contains candidates hit) (first_ranked scores m)) where
  all_ascends : Ascends rank_cmp (sorted rank_cmp (hits_from 0 scores))
  all_ascends = sorted_ascends rank_cmp rank_total (hits_from 0 scores)

  first_once : (d : ℕ) → count_doc d (first_ranked scores m) ≤ 1
  first_once d =
      let a = sum_by-take-le (λ (h : Hit). cond (h.doc == d) 1 0) (sorted rank_cmp (hits_from 0 scores)) m in
      omega (arith, sum_by-sorted rank_cmp (λ (h : Hit). cond (h.doc == d) 1 0) (hits_from 0 scores), hits_once d 0 scores)

  parted : Parted (first_ranked scores m) candidates
  parted = part (first_ranked scores m) candidates (apart_once (first_ranked scores m) first_once) (all_weaker (λ hit. Contains candidates hit) (λ hit. In hit candidates) (λ hit h. in_from_contains candidates hit h) (first_ranked scores m) there)

  behind : (h : Hit) → In h parted.others → In h (drop m (sorted rank_cmp (hits_from 0 scores)))
  behind h other = by (in_part h m (sorted rank_cmp (hits_from 0 scores)) (in_sorted rank_cmp h (hits_from 0 scores) here)) where
    own : (h.doc < length scores) × (1 ≤ h.score) × (h.score ≡ get_or scores h.doc 0)
    own = all_at (λ (h : Hit). (h.doc < length scores) × (1 ≤ h.score) × (h.score ≡ get_or scores h.doc 0)) candidates h are.scored (parted.back h other)

    here : In h (hits_from 0 scores)
    here = in_hits 0 scores h h.doc (omega arith) own.0 own.1 own.2

    by : In h (take m (sorted rank_cmp (hits_from 0 scores))) ⊎ In h (drop m (sorted rank_cmp (hits_from 0 scores))) → In h (drop m (sorted rank_cmp (hits_from 0 scores)))
    by (inr k) = k
    by (inl k) =
        let few = counted_once h.doc candidates (pairs_by_recursion (λ (a b : Hit). a.doc ≢ b.doc) candidates are.once) in
        let same = sum_by-IsPermutation (λ (g : Hit). cond (g.doc == h.doc) 1 0) candidates (first_ranked scores m ++ parted.others) parted.moved in
        let split = sum_by-append (λ (g : Hit). cond (g.doc == h.doc) 1 0) (first_ranked scores m) parted.others in
        let one = counted h.doc (first_ranked scores m) h refl k in
        let two = counted h.doc parted.others h refl other in
        absurd (omega arith)

  above : AreAhead (first_ranked scores m) parted.others
  above = all_weaker (λ a. AllByRecursion (λ b. is_gt (rank_cmp a b) ≡ false) (drop m (sorted rank_cmp (hits_from 0 scores)))) (λ a. AllByRecursion (λ b. is_gt (rank_cmp a b) ≡ false) parted.others)
      (λ a h. all_in (λ b. is_gt (rank_cmp a b) ≡ false) parted.others (λ b other. all_at (λ b. is_gt (rank_cmp a b) ≡ false) (drop m (sorted rank_cmp (hits_from 0 scores))) b h (behind b other)))
      (first_ranked scores m) (take_before_drop rank_cmp m (sorted rank_cmp (hits_from 0 scores)) all_ascends)

  none : length (first_ranked scores m) < m → parted.others ≡ []
  none less = at parted.others (λ h other. subst (In h) gone (behind h other)) where
    gone : drop m (sorted rank_cmp (hits_from 0 scores)) ≡ []
    gone = drop_of_length-le (sorted rank_cmp (hits_from 0 scores)) (let n = length-take m (sorted rank_cmp (hits_from 0 scores)) in omega arith)

    at : (xs : List Hit) → ((h : Hit) → In h xs → ⊥) → xs ≡ []
    at [] empty = refl
    at (x ∷ xs) empty = absurd (empty x (inl refl))

  pub first_of_candidates : take m (sorted rank_cmp candidates) ≡ first_ranked scores m
  first_of_candidates =
      sym (first_part rank_cmp rank_total rank_same candidates (first_ranked scores m) parted.others m parted.moved above (let n = length-take m (sorted rank_cmp (hits_from 0 scores)) in omega arith) none)
      ∙ sorted_is_itself rank_cmp rank_total rank_same (first_ranked scores m) (sorted_ascending rank_cmp rank_total (first_ranked scores m) (ascends_take rank_cmp m (sorted rank_cmp (hits_from 0 scores)) all_ascends))

-- ---- candidates down to a floor

pub hits_each : (P : Hit → Type 0) (from : ℕ) (scores : List ℕ) → ((i : ℕ) → i < length scores → 1 ≤ get_or scores i 0 → P (record { doc = from + i; score = get_or scores i 0 })) → AllByRecursion P (hits_from from scores)
hits_each P from [] each = tt
hits_each P from (score ∷ scores) each = by (cases_eq score 0) (hits_each P (from + 1) scores (λ i inside some. let e : from + suc i ≡ from + 1 + i = omega arith in subst (λ d. P (record { doc = d; score = get_or scores i 0 })) e (each (suc i) (omega arith) some))) where
  first : 1 ≤ score → P (record { doc = from; score = score })
  first some = let e : from + 0 ≡ from = omega arith in subst (λ d. P (record { doc = d; score = score })) e (each 0 (omega arith) some)

  by : (score ≡ 0) ⊎ (score ≡ 0 → ⊥) → AllByRecursion P (hits_from (from + 1) scores) → AllByRecursion P (hits_from from (score ∷ scores))
  by (inl e) rest = let t : (score == 0) ≡ true = eq-eqb score 0 e in rw t rest
  by (inr apart) rest = let f : (score == 0) ≡ false = grind (arith, nat_tests) in rw f (first (omega arith), rest)

abbrev reaching : ℕ → Hit → ℕ
reaching floor h = cond (nat_le floor h.score) 1 0

none_reach : (floor : ℕ) (x : Hit) (xs : List Hit) → x.score < floor → AllByRecursion (λ y. is_gt (rank_cmp x y) ≡ false) xs → sum_by (reaching floor) xs ≡ 0
none_reach floor x [] low after = refl
none_reach floor x (y ∷ ys) low after =
    let s = sum_by-cons (reaching floor) y ys in
    let rest = none_reach floor x ys low after.1 in
    let behind = after.0 in
    let f : nat_le floor y.score ≡ false = grind (arith, nat_tests) in
    rw (s, f) (omega arith)

few_reach : (floor m : ℕ) (xs : List Hit) (h : Hit) → Ascends rank_cmp xs → In h (take m xs) → h.score < floor → sum_by (reaching floor) xs < m
few_reach floor zero xs h order there low = absurd there
few_reach floor (suc m) [] h order there low = absurd there
few_reach floor (suc m) (x ∷ xs) h order (inl e) low =
    let s = sum_by-cons (reaching floor) x xs in
    let mine : x.score < floor = subst (λ (g : Hit). g.score < floor) e low in
    let f : nat_le floor x.score ≡ false = grind (arith, nat_tests) in
    let rest = none_reach floor x xs mine order.0 in
    rw (s, f) (omega arith)
few_reach floor (suc m) (x ∷ xs) h order (inr there) low =
    omega (arith, sum_by-cons (reaching floor) x xs, few_reach floor m xs h order.1 there low, at_most_one (nat_le floor x.score))
  where
    at_most_one : (b : Bool) → cond {A = ℕ} b 1 0 ≤ 1
    at_most_one true = omega arith
    at_most_one false = omega arith

pub first_down_to : (scores : List ℕ) (m floor : ℕ) (candidates : List Hit) → AreHitsOf scores candidates → HaveAllFrom floor scores candidates
    → (floor ≤ 1) ⊎ (m ≤ count_by (λ hit. nat_le floor hit.score) candidates) → take m (sorted rank_cmp candidates) ≡ first_ranked scores m
first_down_to scores m floor candidates are has enough = first_of_candidates scores m candidates are (all_in (λ hit. Contains candidates hit) (first_ranked scores m) there) where
  each : AllByRecursion (λ (h : Hit). (1 ≤ h.score) × (floor ≤ h.score → Contains candidates h)) (hits_from 0 scores)
  each = hits_each (λ (h : Hit). (1 ≤ h.score) × (floor ≤ h.score → Contains candidates h)) 0 scores
      (λ i inside some. (some, λ high. let e : i ≡ 0 + i = omega arith in subst (λ d. Contains candidates (record { doc = d; score = get_or scores i 0 })) e (has i inside some high)))

  inside : AllByRecursion (λ h. In h (hits_from 0 scores)) candidates
  inside = all_weaker (λ (h : Hit). (h.doc < length scores) × (1 ≤ h.score) × (h.score ≡ get_or scores h.doc 0)) (λ h. In h (hits_from 0 scores))
      (λ h own. in_hits 0 scores h h.doc (omega arith) own.0 own.1 own.2) candidates are.scored

  rest : Parted candidates (hits_from 0 scores)
  rest = part candidates (hits_from 0 scores) (apart_once candidates (λ d. counted_once d candidates (pairs_by_recursion (λ (a b : Hit). a.doc ≢ b.doc) candidates are.once))) inside

  more : sum_by (reaching floor) candidates ≤ sum_by (reaching floor) (sorted rank_cmp (hits_from 0 scores))
  more =
      let a = sum_by-sorted rank_cmp (reaching floor) (hits_from 0 scores) in
      let b = sum_by-IsPermutation (reaching floor) (hits_from 0 scores) (candidates ++ rest.others) rest.moved in
      omega (arith, sum_by-append (reaching floor) candidates rest.others)

  there : (h : Hit) → In h (first_ranked scores m) → Contains candidates h
  there h first = by (cases_lt h.score floor) enough where
    mine : (1 ≤ h.score) × (floor ≤ h.score → Contains candidates h)
    mine = all_at (λ (h : Hit). (1 ≤ h.score) × (floor ≤ h.score → Contains candidates h)) (first_ranked scores m) h
        (all_take (λ (h : Hit). (1 ≤ h.score) × (floor ≤ h.score → Contains candidates h)) m (sorted rank_cmp (hits_from 0 scores)) (all_sorted rank_cmp (λ (h : Hit). (1 ≤ h.score) × (floor ≤ h.score → Contains candidates h)) (hits_from 0 scores) each)) first

    by : (h.score < floor) ⊎ (floor ≤ h.score) → (floor ≤ 1) ⊎ (m ≤ count_by (λ hit. nat_le floor hit.score) candidates) → Contains candidates h
    by (inr high) k = mine.1 high
    by (inl low) (inl none) = absurd (let some = mine.0 in omega arith)
    by (inl low) (inr many) = absurd (let few = few_reach floor m (sorted rank_cmp (hits_from 0 scores)) h (sorted_ascends rank_cmp rank_total (hits_from 0 scores)) first low in let a = more in omega arith)
