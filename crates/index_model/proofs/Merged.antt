-- Two lists in order as one, where items that tie are joined.
use Rattle.shared_lemmas.proofs.Common.{◌≡◌, ◌≤◌, List, [], ◌∷◌, ◌++◌, map, length, refl, sym, ap, ap₂, subst, arith, append-nil, append_assoc, IsPermutation, AllByRecursion, flat_map, Ordering, Less, Equal, Greater}
use Rattle.shared_lemmas.proofs.Common.{IsPermutation-append_left, IsPermutation-append_right, IsPermutation-append_comm, IsPermutation-refl, IsPermutation-trans}
use Rattle.std.specs.Ordering.{match_ordering}
use Rattle.shared_lemmas.proofs.Pairs.{Pairs}
use Rattle.shared_lemmas.proofs.Lists.{all_weaker}
use Rattle.index_model.specs.Merging.{merged}

pub by_rank : {A : Type 0} (P : List A → Type 0) (k : Ordering) (xs ys zs : List A) → (k ≡ Less → P xs) → (k ≡ Equal → P ys) → (k ≡ Greater → P zs) → P (match_ordering k xs ys zs)
by_rank P Less xs ys zs a b c = a refl
by_rank P Equal xs ys zs a b c = b refl
by_rank P Greater xs ys zs a b c = c refl

-- ---- lists with the items of two

module _ {E : Type 0} where
  same_items : (xs ys : List E) → xs ≡ ys → IsPermutation xs ys
  same_items xs ys same = subst (IsPermutation xs) same (IsPermutation-refl xs)

  -- xs ++ (ys ++ zs) and ys ++ (xs ++ zs)
  pub first_two : (xs ys zs : List E) → IsPermutation (xs ++ (ys ++ zs)) (ys ++ (xs ++ zs))
  first_two xs ys zs = IsPermutation-trans (xs ++ (ys ++ zs)) ((ys ++ xs) ++ zs) (ys ++ (xs ++ zs))
      (IsPermutation-trans (xs ++ (ys ++ zs)) ((xs ++ ys) ++ zs) ((ys ++ xs) ++ zs) (same_items (xs ++ (ys ++ zs)) ((xs ++ ys) ++ zs) (sym (append_assoc xs ys zs))) (IsPermutation-append_left zs (xs ++ ys) (ys ++ xs) (IsPermutation-append_comm xs ys)))
      (same_items ((ys ++ xs) ++ zs) (ys ++ (xs ++ zs)) (append_assoc ys xs zs))

module _ {A : Type 0} (cmp : A → A → Ordering) (joined : A → A → A) where
  pub none_behind : (xs : List A) → merged cmp joined xs [] ≡ xs
  none_behind [] = refl
  none_behind (x ∷ xs) = refl

  -- ---- what holds of each

  module _ (P Q R : A → Type 0) (from_first : (x : A) → P x → R x) (from_second : (y : A) → Q y → R y) (from_both : (x y : A) → cmp x y ≡ Equal → P x → Q y → R (joined x y)) where
    all_at : (x : A) (xs : List A) → P x → AllByRecursion P xs → ((ys : List A) → AllByRecursion Q ys → AllByRecursion R (merged cmp joined xs ys)) → (ys : List A) → AllByRecursion Q ys → AllByRecursion R (merged cmp joined (x ∷ xs) ys)
    all_at x xs p h more [] k = (from_first x p, all_weaker P R from_first xs h)
    all_at x xs p h more (y ∷ ys) k = by_rank (AllByRecursion R) (cmp x y) _ _ _ (λ _. (from_first x p, more (y ∷ ys) k)) (λ tie. (from_both x y tie p k.0, more ys k.1)) (λ _. (from_second y k.0, all_at x xs p h more ys k.1))

    pub all_merged : (xs ys : List A) → AllByRecursion P xs → AllByRecursion Q ys → AllByRecursion R (merged cmp joined xs ys)
    all_merged [] ys h k = all_weaker Q R from_second ys k
    all_merged (x ∷ xs) ys h k = all_at x xs h.0 h.1 (λ zs. all_merged xs zs h.1) ys k

  -- ---- how many

  pub some_merged : (xs ys : List A) → 1 ≤ length xs → 1 ≤ length (merged cmp joined xs ys)
  some_merged [] ys some = absurd (omega (arith, some))
  some_merged (x ∷ xs) [] some = omega arith
  some_merged (x ∷ xs) (y ∷ ys) some = by_rank (λ (l : List A). 1 ≤ length l) (cmp x y) _ _ _ (λ _. omega arith) (λ _. omega arith) (λ _. omega arith)

  -- ---- the order

  module _ (S : A → A → Type 0) (less : (x y : A) → cmp x y ≡ Less → S x y) (greater : (x y : A) → cmp x y ≡ Greater → S y x) (tied : (x y z : A) → cmp x y ≡ Equal → S y z → S x z) (on : (x y z : A) → S x y → S y z → S x z)
      (first : (x y z : A) → S x z → S (joined x y) z) (last : (x y z : A) → S z x → S z (joined x y)) where
    behind : (z : A) (xs ys : List A) → AllByRecursion (S z) xs → AllByRecursion (S z) ys → AllByRecursion (S z) (merged cmp joined xs ys)
    behind z xs ys h k = all_merged (S z) (S z) (S z) (λ x s. s) (λ y s. s) (λ x y tie s t. last x y z s) xs ys h k

    pairs_at : (x : A) (xs : List A) → Pairs S (x ∷ xs) → ((ys : List A) → Pairs S ys → Pairs S (merged cmp joined xs ys)) → (ys : List A) → Pairs S ys → Pairs S (merged cmp joined (x ∷ xs) ys)
    pairs_at x xs h more [] k = h
    pairs_at x xs h more (y ∷ ys) k = by_rank (Pairs S) (cmp x y) _ _ _
        (λ l. (behind x xs (y ∷ ys) h.0 (less x y l, all_weaker (S y) (S x) (λ z s. on x y z (less x y l) s) ys k.0), more (y ∷ ys) k))
        (λ e. (all_weaker (S x) (S (joined x y)) (λ z s. first x y z s) (merged cmp joined xs ys) (behind x xs ys h.0 (all_weaker (S y) (S x) (λ z s. tied x y z e s) ys k.0)), more ys k.1))
        (λ g. (behind y (x ∷ xs) ys (greater x y g, all_weaker (S x) (S y) (λ z s. on y x z (greater x y g) s) xs h.0) k.0, pairs_at x xs h more ys k.1))

    pub pairs_merged : (xs ys : List A) → Pairs S xs → Pairs S ys → Pairs S (merged cmp joined xs ys)
    pairs_merged [] ys h k = k
    pairs_merged (x ∷ xs) ys h k = pairs_at x xs h (λ zs. pairs_merged xs zs h.1) ys k

  -- ---- what the items have

  module _ {E : Type 0} (has : A → List E) (both : (x y : A) → cmp x y ≡ Equal → IsPermutation (has x ++ has y) (has (joined x y))) where
    abbrev All : List A → List E
    All = flat_map has

    items_at : (x : A) (xs : List A) → ((ys : List A) → IsPermutation (All xs ++ All ys) (All (merged cmp joined xs ys))) → (ys : List A) → IsPermutation (All (x ∷ xs) ++ All ys) (All (merged cmp joined (x ∷ xs) ys))
    items_at x xs more [] = same_items (All (x ∷ xs) ++ []) (All (x ∷ xs)) (append-nil (All (x ∷ xs)))
    items_at x xs more (y ∷ ys) = by_rank (λ (l : List A). IsPermutation (All (x ∷ xs) ++ All (y ∷ ys)) (All l)) (cmp x y) _ _ _
        (λ _. IsPermutation-trans ((has x ++ All xs) ++ All (y ∷ ys)) (has x ++ (All xs ++ All (y ∷ ys))) (has x ++ All (merged cmp joined xs (y ∷ ys)))
        (same_items ((has x ++ All xs) ++ All (y ∷ ys)) (has x ++ (All xs ++ All (y ∷ ys))) (append_assoc (has x) (All xs) (All (y ∷ ys))))
        (IsPermutation-append_right (has x) (All xs ++ All (y ∷ ys)) (All (merged cmp joined xs (y ∷ ys))) (more (y ∷ ys))))
        (λ tie. IsPermutation-trans ((has x ++ All xs) ++ (has y ++ All ys)) ((has x ++ has y) ++ (All xs ++ All ys)) (has (joined x y) ++ All (merged cmp joined xs ys))
        (middle (has x) (All xs) (has y) (All ys))
        (IsPermutation-trans ((has x ++ has y) ++ (All xs ++ All ys)) ((has x ++ has y) ++ All (merged cmp joined xs ys)) (has (joined x y) ++ All (merged cmp joined xs ys))
        (IsPermutation-append_right (has x ++ has y) (All xs ++ All ys) (All (merged cmp joined xs ys)) (more ys))
        (IsPermutation-append_left (All (merged cmp joined xs ys)) (has x ++ has y) (has (joined x y)) (both x y tie))))
        (λ _. IsPermutation-trans (All (x ∷ xs) ++ (has y ++ All ys)) (has y ++ (All (x ∷ xs) ++ All ys)) (has y ++ All (merged cmp joined (x ∷ xs) ys))
        (first_two (All (x ∷ xs)) (has y) (All ys))
        (IsPermutation-append_right (has y) (All (x ∷ xs) ++ All ys) (All (merged cmp joined (x ∷ xs) ys)) (items_at x xs more ys)))
      where
        middle : (a b c d : List E) → IsPermutation ((a ++ b) ++ (c ++ d)) ((a ++ c) ++ (b ++ d))
        middle a b c d = IsPermutation-trans ((a ++ b) ++ (c ++ d)) (a ++ (b ++ (c ++ d))) ((a ++ c) ++ (b ++ d)) (same_items ((a ++ b) ++ (c ++ d)) (a ++ (b ++ (c ++ d))) (append_assoc a b (c ++ d)))
            (IsPermutation-trans (a ++ (b ++ (c ++ d))) (a ++ (c ++ (b ++ d))) ((a ++ c) ++ (b ++ d)) (IsPermutation-append_right a (b ++ (c ++ d)) (c ++ (b ++ d)) (first_two b c d)) (same_items (a ++ (c ++ (b ++ d))) ((a ++ c) ++ (b ++ d)) (sym (append_assoc a c (b ++ d)))))

    pub items_merged : (xs ys : List A) → IsPermutation (All xs ++ All ys) (All (merged cmp joined xs ys))
    items_merged [] ys = IsPermutation-refl (All ys)
    items_merged (x ∷ xs) ys = items_at x xs (items_merged xs) ys

-- ---- what orders them

module _ {A K : Type 0} (key : A → K) (cmp : K → K → Ordering) (joined : A → A → A) (first : (x y : A) → key (joined x y) ≡ key x) where
  abbrev by_key : A → A → Ordering
  by_key x y = cmp (key x) (key y)

  abbrev Keys : List K → List K → List K
  Keys xs ys = merged cmp (λ (k again : K). k) xs ys

  keys_at : (x : A) (xs : List A) → ((ys : List A) → map key (merged by_key joined xs ys) ≡ Keys (map key xs) (map key ys)) → (ys : List A) → map key (merged by_key joined (x ∷ xs) ys) ≡ Keys (map key (x ∷ xs)) (map key ys)
  keys_at x xs more [] = refl
  keys_at x xs more (y ∷ ys) = by (keys_at x xs more ys) (cmp (key x) (key y)) refl where
    by : map key (merged by_key joined (x ∷ xs) ys) ≡ Keys (map key (x ∷ xs)) (map key ys) → (r : Ordering) → cmp (key x) (key y) ≡ r → map key (merged by_key joined (x ∷ xs) (y ∷ ys)) ≡ Keys (map key (x ∷ xs)) (map key (y ∷ ys))
    by rest Less is = rw is (ap (λ (l : List K). key x ∷ l) (more (y ∷ ys)))
    by rest Equal is = rw is (ap₂ (λ (k : K) (l : List K). k ∷ l) (first x y) (more ys))
    by rest Greater is = rw is (ap (λ (l : List K). key y ∷ l) rest)

  pub keys_merged : (xs ys : List A) → map key (merged by_key joined xs ys) ≡ Keys (map key xs) (map key ys)
  keys_merged [] ys = refl
  keys_merged (x ∷ xs) ys = keys_at x xs (keys_merged xs) ys
