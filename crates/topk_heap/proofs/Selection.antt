-- What a selection leaves in front of its place is the first of the hits, and at its place the next.
use Rattle.shared_lemmas.proofs.Common.{◌≡◌, ℕ, zero, suc, ◌+◌, ◌-◌, ◌/◌, ◌%◌, ◌<◌, ◌≤◌, List, [], ◌∷◌, ◌++◌, length, map, take, get_or, true, false, true≢false, refl, sym, ap, subst, ◌∙◌, inl, inr, ◌⊎◌, arith, IsPermutation, None, Some, slice_get, AllByRecursion, IsSplitAround, is_gt, is_lt, nat_cmp}
use Rattle.shared_lemmas.proofs.Common.{cases_lt, nat_tests, get_or_default_zero, length-map, map-append, slice_get_past, All-permutation, IsPermutation-append, IsPermutation-append_left, IsPermutation-cons, IsPermutation-map, IsPermutation-sym, IsPermutation-trans, length_permutation}
use Rattle.topk_heap.proofs.Below.{Hit, sorted, rank_cmp, first_part, rank_total, rank_same, Ascends, all_sorted, ascends_append, sort_is_sorted, sorted_ascending, sorted_ascends, sorted_is_permutation}
use Rattle.shared_lemmas.proofs.Members.{in_from_contains, all_at}
use Rattle.shared_lemmas.proofs.Lists.{all_weaker, all_map}
use Rattle.std.proofs.lemmas.List.{take_all}
use Rattle.topk_heap.specs.Hits.{HitsView, hit_docs}
use Rattle.topk_heap.specs.Private.Rows.{doc_of_key, hit_of_key}
use Rattle.topk_heap.proofs.Lists.{all_by_index, in_right}

not_after : (x y : Hit) → is_lt (rank_cmp y x) ≡ false → is_gt (rank_cmp x y) ≡ false
not_after x y above = grind (arith, nat_tests)

through : (x y z : Hit) → is_gt (rank_cmp x y) ≡ false → is_gt (rank_cmp y z) ≡ false → is_gt (rank_cmp x z) ≡ false
through x y z one two = grind (arith, nat_tests)

pub selected_are_first : (all front : List Hit) (x : Hit) (back : List Hit) (m : ℕ) → IsPermutation all (front ++ x ∷ back) → IsSplitAround rank_cmp front x back
    → length front ≡ m → sorted rank_cmp front ≡ take m (sorted rank_cmp all)
selected_are_first all front x back m moved split size = first_part rank_cmp rank_total rank_same all front (x ∷ back) m moved above (omega arith) (λ short. absurd (omega arith)) where
  behind : AllByRecursion (λ z. is_gt (rank_cmp x z) ≡ false) back
  behind = all_by_index (λ z. is_gt (rank_cmp x z) ≡ false) x back (λ i inside. not_after x _ (split.1 i x inside))

  above : AllByRecursion (λ y. AllByRecursion (λ z. is_gt (rank_cmp y z) ≡ false) (x ∷ back)) front
  above = all_by_index (λ y. AllByRecursion (λ z. is_gt (rank_cmp y z) ≡ false) (x ∷ back)) x front (λ i inside. ahead _ (not_after _ x (split.0 i x inside))) where
    ahead : (y : Hit) → is_gt (rank_cmp y x) ≡ false → AllByRecursion (λ z. is_gt (rank_cmp y z) ≡ false) (x ∷ back)
    ahead y before = (before, all_weaker (λ z. is_gt (rank_cmp x z) ≡ false) (λ z. is_gt (rank_cmp y z) ≡ false) (λ z after. through y x z before after) back behind)

-- ---- one of them, by the numbers that they are sorted by

seam : (xs : List Hit) (x : Hit) (ys : List Hit) (n : ℕ) → length xs ≡ n → slice_get (xs ++ x ∷ ys) n ≡ Some x
seam [] x ys zero size = refl
seam [] x ys (suc n) size = absurd (omega arith)
seam (z ∷ xs) x ys zero size = absurd (omega arith)
seam (z ∷ xs) x ys (suc n) size = seam xs x ys n (omega arith)

up_to_seam : (xs : List Hit) (x : Hit) (ys : List Hit) (n : ℕ) → length xs ≡ n → take (suc n) (xs ++ x ∷ ys) ≡ xs ++ x ∷ []
up_to_seam [] x ys zero size = refl
up_to_seam [] x ys (suc n) size = absurd (omega arith)
up_to_seam (z ∷ xs) x ys zero size = absurd (omega arith)
up_to_seam (z ∷ xs) x ys (suc n) size = ap (λ (zs : List Hit). z ∷ zs) (up_to_seam xs x ys n (omega arith))

module _ (all front : List Hit) (x : Hit) (back : List Hit) (n : ℕ) (moved : IsPermutation all (front ++ x ∷ back)) (ahead : AllByRecursion (λ y. is_gt (rank_cmp y x) ≡ false) front)
    (behind : AllByRecursion (λ y. is_gt (rank_cmp x y) ≡ false) back) (size : length front ≡ n) where
  items : IsPermutation all (sorted rank_cmp front ++ x ∷ sorted rank_cmp back)
  items = IsPermutation-trans all (front ++ x ∷ back) (sorted rank_cmp front ++ x ∷ sorted rank_cmp back) moved
      (IsPermutation-append front (sorted rank_cmp front) (x ∷ back) (x ∷ sorted rank_cmp back) (sorted_is_permutation rank_cmp front)
      (IsPermutation-cons x back (sorted rank_cmp back) (sorted_is_permutation rank_cmp back)))

  back_order : AllByRecursion (λ y. is_gt (rank_cmp x y) ≡ false) (sorted rank_cmp back)
  back_order = all_sorted rank_cmp (λ y. is_gt (rank_cmp x y) ≡ false) back behind

  order : Ascends rank_cmp (sorted rank_cmp front ++ x ∷ sorted rank_cmp back)
  order = ascends_append rank_cmp (sorted rank_cmp front) (x ∷ sorted rank_cmp back) (sorted_ascends rank_cmp rank_total front) (back_order, sorted_ascends rank_cmp rank_total back)
      (all_weaker (λ y. is_gt (rank_cmp y x) ≡ false) (λ y. AllByRecursion (λ z. is_gt (rank_cmp y z) ≡ false) (x ∷ sorted rank_cmp back))
      (λ y h. (h, all_weaker (λ z. is_gt (rank_cmp x z) ≡ false) (λ z. is_gt (rank_cmp y z) ≡ false) (λ z k. through y x z h k) (sorted rank_cmp back) back_order))
      (sorted rank_cmp front) (all_sorted rank_cmp (λ y. is_gt (rank_cmp y x) ≡ false) front ahead))

  whole : sorted rank_cmp front ++ x ∷ sorted rank_cmp back ≡ sorted rank_cmp all
  whole = sort_is_sorted rank_cmp rank_total rank_same all (sorted rank_cmp front ++ x ∷ sorted rank_cmp back) items (sorted_ascending rank_cmp rank_total (sorted rank_cmp front ++ x ∷ sorted rank_cmp back) order)

  front_size : length (sorted rank_cmp front) ≡ n
  front_size = length_permutation front (sorted rank_cmp front) (sorted_is_permutation rank_cmp front) ∙ size

  selected_at : slice_get (sorted rank_cmp all) n ≡ Some x
  selected_at = ap (λ (xs : List Hit). slice_get xs n) (sym whole) ∙ seam (sorted rank_cmp front) x (sorted rank_cmp back) n front_size

  selected_with : IsPermutation (take (n + 1) (sorted rank_cmp all)) (front ++ x ∷ [])
  selected_with =
      let one : n + 1 ≡ suc n = omega arith in
      let is : take (n + 1) (sorted rank_cmp all) ≡ sorted rank_cmp front ++ x ∷ [] =
      ap (λ i. take i (sorted rank_cmp all)) one ∙ ap (λ (xs : List Hit). take (suc n) xs) (sym whole) ∙ up_to_seam (sorted rank_cmp front) x (sorted rank_cmp back) n front_size in
      subst (λ (xs : List Hit). IsPermutation xs (front ++ x ∷ [])) (sym is)
      (IsPermutation-append_left (x ∷ []) (sorted rank_cmp front) front (IsPermutation-sym front (sorted rank_cmp front) (sorted_is_permutation rank_cmp front)))

key_order : (a b : ℕ) → b < 18446744073709551616 → a ≤ b → is_gt (rank_cmp (hit_of_key a) (hit_of_key b)) ≡ false
key_order a b small low = by_parts (a / 4294967296) (a % 4294967296) (b / 4294967296) (b % 4294967296)
    (let x : b / 4294967296 < 4294967296 = omega arith in omega arith) (by (cases_lt (a / 4294967296) (b / 4294967296)))
  where
    by : (a / 4294967296 < b / 4294967296) ⊎ (b / 4294967296 ≤ a / 4294967296) → (a / 4294967296 < b / 4294967296) ⊎ ((a / 4294967296 ≡ b / 4294967296) × (a % 4294967296 ≤ b % 4294967296))
    by (inl under) = inl under
    by (inr over) = let same : a / 4294967296 ≡ b / 4294967296 = omega arith in inr (same, omega arith)

    by_parts : (p q r s : ℕ) → r ≤ 4294967295 → (p < r) ⊎ ((p ≡ r) × (q ≤ s)) → is_gt (rank_cmp (record { doc = q; score = 4294967295 - p }) (record { doc = s; score = 4294967295 - r })) ≡ false
    by_parts p q r s most (inl under) = let lower : 4294967295 - r < 4294967295 - p = omega arith in above (record { doc = q; score = 4294967295 - p }) (record { doc = s; score = 4294967295 - r }) lower where
      above : (x y : Hit) → y.score < x.score → is_gt (rank_cmp x y) ≡ false
      above x y lower = grind (arith, nat_tests)
    by_parts p q r s most (inr both) =
        beside (record { doc = q; score = 4294967295 - p }) (record { doc = s; score = 4294967295 - r }) (ap (λ n. 4294967295 - n) both.0) both.1
      where
        beside : (x y : Hit) → x.score ≡ y.score → x.doc ≤ y.doc → is_gt (rank_cmp x y) ≡ false
        beside x y same up = grind (arith, nat_tests)

not_lower : (a b : ℕ) → is_lt (nat_cmp b a) ≡ false → a ≤ b
not_lower a b h = by (cases_lt b a) where
  by : (b < a) ⊎ (a ≤ b) → a ≤ b
  by (inr high) = high
  by (inl low) = absurd (true≢false (let t : is_lt (nat_cmp b a) ≡ true = grind (arith, nat_tests) in sym t ∙ h))

docs_with : (keys : List ℕ) (x : ℕ) → hit_docs (map hit_of_key keys ++ hit_of_key x ∷ []) ≡ map doc_of_key keys ++ doc_of_key x ∷ []
docs_with [] x = refl
docs_with (key ∷ keys) x = ap (λ (ds : List ℕ). doc_of_key key ∷ ds) (docs_with keys x)

module _ (keys front : List ℕ) (x : ℕ) (back : List ℕ) (n : ℕ) (moved : IsPermutation keys (front ++ x ∷ back)) (split : IsSplitAround nat_cmp front x back) (size : length front ≡ n)
    (small : (i : ℕ) → get_or keys i 0 < 18446744073709551616) where
  each : AllByRecursion (λ a. a < 18446744073709551616) (front ++ x ∷ back)
  each = all_by_index (λ a. a < 18446744073709551616) 0 (front ++ x ∷ back)
      (λ i inside. All-permutation (λ a. a < 18446744073709551616) keys (front ++ x ∷ back) moved (λ k d here. subst (λ (v : ℕ). v < 18446744073709551616) (sym (get_or_default_zero keys k d here)) (small k)) i 0 inside)

  x_small : x < 18446744073709551616
  x_small = all_at (λ a. a < 18446744073709551616) (front ++ x ∷ back) x each (in_right x front (x ∷ back) (inl refl))

  back_small : (i : ℕ) → i < length back → get_or back i 0 < 18446744073709551616
  back_small i inside = all_at (λ a. a < 18446744073709551616) (front ++ x ∷ back) (get_or back i 0) each (in_right (get_or back i 0) front (x ∷ back) (inr (in_from_contains back (get_or back i 0) (i, inside, get_or_default_zero back i (get_or back i 0) inside))))

  hits_moved : IsPermutation (map hit_of_key keys) (map hit_of_key front ++ hit_of_key x ∷ map hit_of_key back)
  hits_moved = subst (λ (xs : List Hit). IsPermutation (map hit_of_key keys) xs) (map-append hit_of_key front (x ∷ back)) (IsPermutation-map hit_of_key keys (front ++ x ∷ back) moved)

  hits_ahead : AllByRecursion (λ y. is_gt (rank_cmp y (hit_of_key x)) ≡ false) (map hit_of_key front)
  hits_ahead = all_map (λ (y : Hit). is_gt (rank_cmp y (hit_of_key x)) ≡ false) hit_of_key front
      (all_by_index (λ a. is_gt (rank_cmp (hit_of_key a) (hit_of_key x)) ≡ false) 0 front (λ i inside. key_order (get_or front i 0) x x_small (not_lower (get_or front i 0) x (split.0 i 0 inside))))

  hits_behind : AllByRecursion (λ y. is_gt (rank_cmp (hit_of_key x) y) ≡ false) (map hit_of_key back)
  hits_behind = all_map (λ (y : Hit). is_gt (rank_cmp (hit_of_key x) y) ≡ false) hit_of_key back
      (all_by_index (λ a. is_gt (rank_cmp (hit_of_key x) (hit_of_key a)) ≡ false) 0 back (λ i inside. key_order x (get_or back i 0) (back_small i inside) (not_lower x (get_or back i 0) (split.1 i 0 inside))))

  pub selected_key : slice_get (sorted rank_cmp (map hit_of_key keys)) n ≡ Some (hit_of_key x)
  selected_key = selected_at (map hit_of_key keys) (map hit_of_key front) (hit_of_key x) (map hit_of_key back) n hits_moved hits_ahead hits_behind (length-map front hit_of_key ∙ size)

  pub selected_docs : (were some noted : List ℕ) (doc : ℕ) → were ≡ [] → some ≡ were ++ map doc_of_key front → noted ≡ some ++ doc ∷ [] → doc ≡ doc_of_key x
      → IsPermutation (hit_docs (take (n + 1) (sorted rank_cmp (map hit_of_key keys)))) noted
  selected_docs were some noted doc none one two is =
      let told : hit_docs (map hit_of_key front ++ hit_of_key x ∷ []) ≡ noted =
      docs_with front x ∙ ap (λ d. map doc_of_key front ++ d ∷ []) (sym is) ∙ ap (λ (ds : List ℕ). (ds ++ map doc_of_key front) ++ doc ∷ []) (sym none) ∙ ap (λ (ds : List ℕ). ds ++ doc ∷ []) (sym one) ∙ sym two in
      subst (λ (ds : List ℕ). IsPermutation (hit_docs (take (n + 1) (sorted rank_cmp (map hit_of_key keys)))) ds) told
      (IsPermutation-map (λ (h : Hit). h.doc) (take (n + 1) (sorted rank_cmp (map hit_of_key keys))) (map hit_of_key front ++ hit_of_key x ∷ [])
      (selected_with (map hit_of_key keys) (map hit_of_key front) (hit_of_key x) (map hit_of_key back) n hits_moved hits_ahead hits_behind (length-map front hit_of_key ∙ size)))

-- ---- where there are no more

pub none_past : (keys : List ℕ) (n : ℕ) (view : HitsView) → map hit_of_key keys ≡ view.hits → length keys ≤ n → None ≡ slice_get (sorted rank_cmp view.hits) n
none_past keys n view is past =
    let size = length_permutation view.hits (sorted rank_cmp view.hits) (sorted_is_permutation rank_cmp view.hits) in
    let mapped = ap (λ (xs : List Hit). length xs) is in
    sym (slice_get_past (sorted rank_cmp view.hits) n (omega (arith, size, mapped, length-map keys hit_of_key, past)))

docs_are : (keys : List ℕ) → hit_docs (map hit_of_key keys) ≡ map doc_of_key keys
docs_are [] = refl
docs_are (key ∷ keys) = ap (λ (ds : List ℕ). doc_of_key key ∷ ds) (docs_are keys)

pub all_docs : (keys seen were noted : List ℕ) (n : ℕ) (view : HitsView) → map hit_of_key keys ≡ view.hits → length keys ≤ n → seen ≡ keys → were ≡ [] → noted ≡ were ++ map doc_of_key seen
    → IsPermutation (hit_docs (take (n + 1) (sorted rank_cmp view.hits))) noted
all_docs keys seen were noted n view is past same none notes =
    let size = length_permutation view.hits (sorted rank_cmp view.hits) (sorted_is_permutation rank_cmp view.hits) in
    let mapped = ap (λ (xs : List Hit). length xs) is in
    let all : take (n + 1) (sorted rank_cmp view.hits) ≡ sorted rank_cmp view.hits = take_all (n + 1) (sorted rank_cmp view.hits) (omega (arith, size, mapped, length-map keys hit_of_key, past)) in
    let told : hit_docs view.hits ≡ noted = ap hit_docs (sym is) ∙ docs_are keys ∙ ap (λ (ds : List ℕ). ds ++ map doc_of_key keys) (sym none) ∙ ap (λ (ks : List ℕ). were ++ map doc_of_key ks) (sym same) ∙ sym notes in
    subst (λ (ds : List ℕ). IsPermutation (hit_docs (take (n + 1) (sorted rank_cmp view.hits))) ds) told
    (subst (λ (xs : List Hit). IsPermutation (hit_docs xs) (hit_docs view.hits)) (sym all)
    (IsPermutation-map (λ (h : Hit). h.doc) (sorted rank_cmp view.hits) view.hits (IsPermutation-sym view.hits (sorted rank_cmp view.hits) (sorted_is_permutation rank_cmp view.hits))))
