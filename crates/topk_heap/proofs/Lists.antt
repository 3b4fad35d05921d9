-- Being in a list, and what holds of its items and of pairs of them.
use Rattle.shared_lemmas.proofs.Common.{◌≡◌, ◌≢◌, ℕ, zero, suc, ◌<◌, List, [], ◌∷◌, ◌++◌, length, map, take, get_or, refl, sym, ap, subst, arith, inl, inr, ◌⊎◌, reverse, AllByRecursion, cases_eq, reverse_onto, All-from_recursion}
use Rattle.jass_base.specs.declared.answer.Hit.{Hit}
use Rattle.shared_lemmas.proofs.Pairs.{Pairs}
use Rattle.shared_lemmas.proofs.Members.{In, all_at, all_in}
use Rattle.shared_lemmas.proofs.Lists.{all_take}

-- ---- being in a list

pub in_append : {A : Type 0} (x : A) (xs ys : List A) → In x (xs ++ ys) → In x xs ⊎ In x ys
in_append x [] ys h = inr h
in_append x (y ∷ xs) ys (inl e) = inl (inl e)
in_append {A} x (y ∷ xs) ys (inr there) = by (in_append x xs ys there) where
  by : In x xs ⊎ In x ys → In x (y ∷ xs) ⊎ In x ys
  by (inl k) = inl (inr k)
  by (inr k) = inr k

pub in_left : {A : Type 0} (x : A) (xs ys : List A) → In x xs → In x (xs ++ ys)
in_left x [] ys h = absurd h
in_left x (y ∷ xs) ys (inl e) = inl e
in_left x (y ∷ xs) ys (inr there) = inr (in_left x xs ys there)

pub in_right : {A : Type 0} (x : A) (xs ys : List A) → In x ys → In x (xs ++ ys)
in_right x [] ys h = h
in_right x (y ∷ xs) ys h = inr (in_right x xs ys h)

pub in_map : {A B : Type 0} (f : A → B) (x : A) (xs : List A) → In x xs → In (f x) (map f xs)
in_map f x [] h = absurd h
in_map f x (y ∷ xs) (inl e) = inl (ap f e)
in_map f x (y ∷ xs) (inr there) = inr (in_map f x xs there)

-- ---- what holds of all items

pub all_by_index : {A : Type 0} (P : A → Type 0) (d : A) (xs : List A) → ((i : ℕ) → i < length xs → P (get_or xs i d)) → AllByRecursion P xs
all_by_index P d [] h = tt
all_by_index P d (x ∷ xs) h = (h 0 (omega arith), all_by_index P d xs (λ i inside. h (suc i) (omega arith)))

-- ---- what holds of all pairs

pub pairs_index : {A : Type 0} (R : A → A → Type 0) (xs : List A) → Pairs R xs → (i j : ℕ) (d : A) → i < j → j < length xs → R (get_or xs i d) (get_or xs j d)
pairs_index R [] h i j d before inside = absurd (omega arith)
pairs_index R (x ∷ xs) h i zero d before inside = absurd (omega arith)
pairs_index R (x ∷ xs) h zero (suc j) d before inside = All-from_recursion (λ y. R x y) xs h.0 j d (omega arith)
pairs_index R (x ∷ xs) h (suc i) (suc j) d before inside = pairs_index R xs h.1 i j d (omega arith) (omega arith)

pub pairs_take : {A : Type 0} (R : A → A → Type 0) (n : ℕ) (xs : List A) → Pairs R xs → Pairs R (take n xs)
pairs_take R zero xs h = tt
pairs_take R (suc n) [] h = tt
pairs_take R (suc n) (x ∷ xs) h = (all_take (λ y. R x y) n xs h.0, pairs_take R n xs h.1)

-- ---- in the other order

pub in_reverse : {A : Type 0} (x : A) (xs : List A) → In x (reverse xs) → In x xs
in_reverse x [] h = h
in_reverse {A} x (y ∷ ys) h = by (λ k. in_reverse x ys k) (in_append x (reverse ys) (y ∷ []) (subst (λ (zs : List A). In x zs) (reverse_onto ys y []) h)) where
  by : (In x (reverse ys) → In x ys) → In x (reverse ys) ⊎ In x (y ∷ []) → In x (y ∷ ys)
  by later (inl k) = inr (later k)
  by later (inr (inl e)) = inl e
  by later (inr (inr k)) = absurd k

pub in_reversed : {A : Type 0} (x : A) (xs : List A) → In x xs → In x (reverse xs)
in_reversed x [] h = h
in_reversed {A} x (y ∷ ys) (inl e) = subst (λ (zs : List A). In x zs) (sym (reverse_onto ys y [])) (in_right x (reverse ys) (y ∷ []) (inl e))
in_reversed {A} x (y ∷ ys) (inr there) = subst (λ (zs : List A). In x zs) (sym (reverse_onto ys y [])) (in_left x (reverse ys) (y ∷ []) (in_reversed x ys there))

pub all_reversed : {A : Type 0} (P : A → Type 0) (xs : List A) → AllByRecursion P (reverse xs) → AllByRecursion P xs
all_reversed P xs h = all_in P xs (λ x there. all_at P (reverse xs) x h (in_reversed x xs there))

-- ---- documents

pub record Has (hits : List Hit) (doc : ℕ) : Type 0 where
  pub hit : Hit
  pub there : In hit hits
  pub is : hit.doc ≡ doc

pub doc_cases : (doc : ℕ) (hits : List Hit) → Has hits doc ⊎ AllByRecursion (λ (hit : Hit). hit.doc ≢ doc) hits
doc_cases doc [] = inr tt
doc_cases doc (hit ∷ hits) = by (cases_eq hit.doc doc) (doc_cases doc hits) where
  by : (hit.doc ≡ doc) ⊎ (hit.doc ≡ doc → ⊥) → Has hits doc ⊎ AllByRecursion (λ (h : Hit). h.doc ≢ doc) hits → Has (hit ∷ hits) doc ⊎ AllByRecursion (λ (h : Hit). h.doc ≢ doc) (hit ∷ hits)
  by (inl e) rest = inl (record { hit = hit; there = inl refl; is = e })
  by (inr apart) (inl has) = inl (record { hit = has.hit; there = inr has.there; is = has.is })
  by (inr apart) (inr none) = inr (apart, none)
