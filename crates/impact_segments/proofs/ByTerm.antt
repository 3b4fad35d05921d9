-- Lists by rising terms: the entries of each in order, one list after the other, are all entries in order.
use Rattle.shared_lemmas.proofs.Common.{◌≡◌, ℕ, ◌≤◌, List, [], ◌∷◌, ◌++◌, filter, length, map, Bool, true, false, true≢false, cond, refl, sym, ap, ap₂, ◌∙◌, subst, arith, IsPermutation, nat_lt, AllByRecursion, flat_map, Ordering, Less, Equal, Greater, is_gt, is_lt, is_eq, nat_cmp, IsTotalOrder}
use Rattle.shared_lemmas.proofs.Common.{slice_cmp, nat_tests, nat_list_cmp_total, filter-append, recursion_from_All, All-from_recursion, All-permutation, sum_by-IsPermutation, length-filter}
use Rattle.shared_lemmas.proofs.Pairs.{Pairs}
use Rattle.shared_lemmas.proofs.Lists.{all_filter, filter_passes, all_weaker, all_append}
use Rattle.shared_lemmas.proofs.Texts.{not_itself}
use Rattle.impact_segments.proofs.Below.{Posting, Rule, Bits, Range, impact_of, Entry, sorted, entry_cmp, entry_total, Ascends, level, same_ranks, sorted_ascends, sorted_level, all_sorted, ascends_append}
use Rattle.impact_segments.specs.Collections.{entries_in, weight_in}
use Rattle.impact_segments.proofs.Orders.{term_same}

abbrev pub text_cmp : List ℕ → List ℕ → Ordering
text_cmp = slice_cmp nat_cmp

abbrev flat_cmp : Entry (List ℕ) → Entry (List ℕ) → Ordering
flat_cmp = entry_cmp (slice_cmp nat_cmp)

flat_total : IsTotalOrder flat_cmp
flat_total = entry_total (slice_cmp nat_cmp) nat_list_cmp_total

-- ---- what passes a test

filter_pairs : {A : Type 0} (R : A → A → Type 0) (q : A → Bool) (xs : List A) → Pairs R xs → Pairs R (filter q xs)
filter_pairs R q [] h = tt
filter_pairs {A} R q (x ∷ xs) h = step (q x) refl (filter_pairs R q xs h.1) where
  step : (b : Bool) → q x ≡ b → Pairs R (filter q xs) → Pairs R (filter q (x ∷ xs))
  step true e rest = rw e (all_filter (λ y. R x y) q xs h.0, rest)
  step false e rest = rw e rest

-- what fails gives nothing
pub flat_kept : {A B : Type 0} (f : A → List B) (q : A → Bool) → ((x : A) → q x ≡ false → f x ≡ []) → (xs : List A) → flat_map f (filter q xs) ≡ flat_map f xs
flat_kept f q none [] = refl
flat_kept {A} {B} f q none (x ∷ xs) = step (q x) refl (flat_kept f q none xs) where
  step : (b : Bool) → q x ≡ b → flat_map f (filter q xs) ≡ flat_map f xs → flat_map f (filter q (x ∷ xs)) ≡ flat_map f (x ∷ xs)
  step true e rest = rw e (ap (λ (l : List B). f x ++ l) rest)
  step false e rest = rw e (rest ∙ ap (λ (l : List B). l ++ flat_map f xs) (sym (none x e)))

-- where at most one passes, it is the same one in whatever order
module _ {A : Type 0} (q : A → Bool) where
  only : (x : A) (xs : List A) → AllByRecursion (λ y. y ≡ x) (filter q xs) → AllByRecursion (λ y. q y ≡ true → y ≡ x) xs
  only x [] h = tt
  only x (y ∷ ys) h = step (q y) refl h (λ k. only x ys k) where
    step : (b : Bool) → q y ≡ b → AllByRecursion (λ z. z ≡ x) (filter q (y ∷ ys)) → (AllByRecursion (λ z. z ≡ x) (filter q ys) → AllByRecursion (λ z. q z ≡ true → z ≡ x) ys)
        → AllByRecursion (λ z. q z ≡ true → z ≡ x) (y ∷ ys)
    step true e h later = let k = rw e at h in ((λ _. k.0), later k.1)
    step false e h later = let k = rw e at h in ((λ t. absurd (true≢false (sym t ∙ e))), later k)

  passed : (x : A) (xs : List A) → AllByRecursion (λ y. q y ≡ true → y ≡ x) xs → AllByRecursion (λ y. y ≡ x) (filter q xs)
  passed x [] h = tt
  passed x (y ∷ ys) h = step (q y) refl (passed x ys h.1) where
    step : (b : Bool) → q y ≡ b → AllByRecursion (λ z. z ≡ x) (filter q ys) → AllByRecursion (λ z. z ≡ x) (filter q (y ∷ ys))
    step true e rest = rw e (h.0 e, rest)
    step false e rest = rw e rest

  pub one_passes : (xs ys : List A) → IsPermutation xs ys → length (filter q xs) ≤ 1 → filter q xs ≡ filter q ys
  one_passes xs ys moved few = by (filter q xs) (filter q ys) refl refl where
    size : length (filter q ys) ≡ length (filter q xs)
    size = length-filter q ys ∙ sum_by-IsPermutation (λ x. cond (q x) 1 0) xs ys moved ∙ sym (length-filter q xs)

    by : (us vs : List A) → filter q xs ≡ us → filter q ys ≡ vs → filter q xs ≡ filter q ys
    by [] [] e f = e ∙ sym f
    by [] (v ∷ vs) e f = absurd (omega (arith, size, ap length e, ap length f))
    by (u ∷ []) [] e f = absurd (omega (arith, size, ap length e, ap length f))
    by (u ∷ w ∷ us) vs e f = absurd (omega (arith, few, ap length e))
    by (u ∷ []) (v ∷ w ∷ vs) e f = absurd (omega (arith, size, ap length e, ap length f))
    by (u ∷ []) (v ∷ []) e f =
        let P : List A → Type 0 = λ (l : List A). AllByRecursion (λ y. y ≡ u) l in
        let mine : AllByRecursion (λ y. q y ≡ true → y ≡ u) xs = only u xs (subst P (sym e) (refl, tt)) in
        let theirs : AllByRecursion (λ y. q y ≡ true → y ≡ u) ys
        = recursion_from_All (λ y. q y ≡ true → y ≡ u) ys (All-permutation (λ y. q y ≡ true → y ≡ u) xs ys moved (All-from_recursion (λ y. q y ≡ true → y ≡ u) xs mine)) in
        let same : AllByRecursion (λ y. y ≡ u) (v ∷ []) = subst P f (passed u ys theirs) in
        e ∙ ap (λ (x : A). (let l : List A = x ∷ [] in l)) (sym same.0) ∙ sym f

-- ---- the entries

-- a list without postings gives nothing
pub none_of : {A B : Type 0} (f : A → B) (xs : List A) → nat_lt 0 (length xs) ≡ false → map f xs ≡ []
none_of f [] h = refl
none_of f (x ∷ xs) h = absurd (grind (arith, nat_tests))

-- the entries of a list are of its term
pub own_term : (rule : Rule) (lengths : List ℕ) (total : ℕ) (bits : Bits) (range : Range) (term : List ℕ) (postings : List Posting)
    → AllByRecursion (λ (e : Entry (List ℕ)). e.term ≡ term) (entries_in rule lengths total bits range term postings)
own_term rule lengths total bits range term postings = each postings where
  each : (ps : List Posting)
      → AllByRecursion (λ (e : Entry (List ℕ)). e.term ≡ term) (map (λ (p : Posting). record { term = term; doc = p.doc; impact = impact_of bits range (weight_in rule lengths total (length postings) p) }) ps)
  each [] = tt
  each (p ∷ ps) = (refl, each ps)

module _ {A : Type 0} (text : A → List ℕ) (E : A → List (Entry (List ℕ))) (own : (a : A) → AllByRecursion (λ (e : Entry (List ℕ)). e.term ≡ text a) (E a)) where
  abbrev S : A → List (Entry (List ℕ))
  S a = sorted (entry_cmp (slice_cmp nat_cmp)) (E a)

  abbrev Rises : A → A → Type 0
  Rises a b = is_lt (text_cmp (text a) (text b)) ≡ true

  own_sorted : (a : A) → AllByRecursion (λ (e : Entry (List ℕ)). e.term ≡ text a) (S a)
  own_sorted a = all_sorted flat_cmp (λ (e : Entry (List ℕ)). e.term ≡ text a) (E a) (own a)

  -- ---- at one rank

  -- an entry of another term is not level
  unlevel : (z e : Entry (List ℕ)) → is_eq (text_cmp z.term e.term) ≡ false → level flat_cmp z e ≡ false
  unlevel z e h = by (text_cmp z.term e.term) refl h where
    by : (r : Ordering) → text_cmp z.term e.term ≡ r → is_eq r ≡ false → level flat_cmp z e ≡ false
    by Less k h = rw k refl
    by Equal k h = absurd (true≢false h)
    by Greater k h = rw k refl

  none_level : (z : Entry (List ℕ)) (t : List ℕ) (es : List (Entry (List ℕ))) → is_eq (text_cmp z.term t) ≡ false → AllByRecursion (λ (e : Entry (List ℕ)). e.term ≡ t) es → filter (level flat_cmp z) es ≡ []
  none_level z t [] n h = refl
  none_level z t (e ∷ es) n h =
      let off : level flat_cmp z e ≡ false = unlevel z e (ap (λ (s : List ℕ). is_eq (text_cmp z.term s)) h.0 ∙ n) in
      rw off (none_level z t es n h.1)

  -- the entries of an item that are level, and whether it has the term
  abbrev at : Entry (List ℕ) → A → List (Entry (List ℕ))
  at z a = filter (level flat_cmp z) (E a)

  abbrev has : Entry (List ℕ) → A → Bool
  has z a = is_eq (text_cmp z.term (text a))

  level_sorted : (z : Entry (List ℕ)) (items : List A) → filter (level flat_cmp z) (flat_map S items) ≡ flat_map (at z) items
  level_sorted z [] = refl
  level_sorted z (a ∷ items) =
      filter-append (level flat_cmp z) (S a) (flat_map S items)
      ∙ ap₂ (λ (x y : List (Entry (List ℕ))). x ++ y) (sorted_level flat_cmp flat_total z (E a)) (level_sorted z items)

  level_all : (z : Entry (List ℕ)) (items : List A) → filter (level flat_cmp z) (flat_map E items) ≡ flat_map (at z) items
  level_all z [] = refl
  level_all z (a ∷ items) = filter-append (level flat_cmp z) (E a) (flat_map E items) ∙ ap (λ (x : List (Entry (List ℕ))). at z a ++ x) (level_all z items)

  -- of items that rise at most one has the term
  has_one : (z : Entry (List ℕ)) (items : List A) → Pairs Rises items → length (filter (has z) items) ≤ 1
  has_one z items rise = by (filter (has z) items) (filter_passes (has z) items) (filter_pairs Rises (has z) items rise) where
    same : (t : List ℕ) → is_eq (text_cmp z.term t) ≡ true → z.term ≡ t
    same t e = turn (text_cmp z.term t) refl e where
      turn : (r : Ordering) → text_cmp z.term t ≡ r → is_eq r ≡ true → z.term ≡ t
      turn Less k h = absurd (true≢false (sym h))
      turn Equal k h = term_same z.term t k
      turn Greater k h = absurd (true≢false (sym h))

    by : (items : List A) → AllByRecursion (λ a. has z a ≡ true) items → Pairs Rises items → length items ≤ 1
    by [] h p = omega arith
    by (a ∷ []) h p = omega arith
    by (a ∷ b ∷ items) h p =
        let P : List ℕ → Type 0 = λ (t : List ℕ). is_lt (text_cmp t (text b)) ≡ true in
        absurd (not_itself (text b) (subst P (sym (same (text a) h.0) ∙ same (text b) h.1.0) p.0.0))

  same_rank : (some : A → Bool) → ((a : A) → some a ≡ false → E a ≡ []) → (all items : List A) → IsPermutation items (filter some all) → Pairs Rises items → (z : Entry (List ℕ))
      → filter (level flat_cmp z) (flat_map S items) ≡ filter (level flat_cmp z) (flat_map E all)
  same_rank some none all items moved rise z =
      let other : (a : A) → has z a ≡ false → at z a ≡ [] = λ a n. none_level z (text a) (E a) n (own a) in
      level_sorted z items
      ∙ sym (flat_kept (at z) (has z) other items)
      ∙ ap (flat_map (at z)) (one_passes (has z) items (filter some all) moved (has_one z items rise))
      ∙ flat_kept (at z) (has z) other (filter some all)
      ∙ flat_kept (at z) some (λ a n. ap (filter (level flat_cmp z)) (none a n)) all
      ∙ sym (level_all z all)

  -- ---- the order

  behind : (t : List ℕ) (items : List A) → AllByRecursion (λ a. is_lt (text_cmp t (text a)) ≡ true) items → AllByRecursion (λ (e : Entry (List ℕ)). is_lt (text_cmp t e.term) ≡ true) (flat_map S items)
  behind t [] h = tt
  behind t (a ∷ items) h = all_append (λ (e : Entry (List ℕ)). is_lt (text_cmp t e.term) ≡ true) (S a) (flat_map S items)
      (all_weaker (λ (e : Entry (List ℕ)). e.term ≡ text a) (λ (e : Entry (List ℕ)). is_lt (text_cmp t e.term) ≡ true) (λ e k. ap (λ (s : List ℕ). is_lt (text_cmp t s)) k ∙ h.0) (S a) (own_sorted a))
      (behind t items h.1)

  before : (x y : Entry (List ℕ)) (t : List ℕ) → x.term ≡ t → is_lt (text_cmp t y.term) ≡ true → is_gt (flat_cmp x y) ≡ false
  before x y t e h = by (text_cmp x.term y.term) refl (ap (λ (s : List ℕ). is_lt (text_cmp s y.term)) e ∙ h) where
    by : (r : Ordering) → text_cmp x.term y.term ≡ r → is_lt r ≡ true → is_gt (flat_cmp x y) ≡ false
    by Less k h = rw k refl
    by Equal k h = absurd (true≢false (sym h))
    by Greater k h = absurd (true≢false (sym h))

  entries_ascend : (items : List A) → Pairs Rises items → Ascends flat_cmp (flat_map S items)
  entries_ascend [] h = tt
  entries_ascend (a ∷ items) h = ascends_append flat_cmp (S a) (flat_map S items) (sorted_ascends flat_cmp flat_total (E a)) (entries_ascend items h.1)
      (all_weaker (λ (e : Entry (List ℕ)). e.term ≡ text a) (λ (x : Entry (List ℕ)). AllByRecursion (λ (y : Entry (List ℕ)). is_gt (flat_cmp x y) ≡ false) (flat_map S items))
      (λ x k. all_weaker (λ (y : Entry (List ℕ)). is_lt (text_cmp (text a) y.term) ≡ true) (λ (y : Entry (List ℕ)). is_gt (flat_cmp x y) ≡ false) (λ y i. before x y (text a) k i) (flat_map S items) (behind (text a) items h.0))
      (S a) (own_sorted a))

  -- those that have entries, by rising terms
  pub by_term : (some : A → Bool) → ((a : A) → some a ≡ false → E a ≡ []) → (all items : List A) → IsPermutation items (filter some all) → Pairs Rises items → flat_map S items ≡ sorted (entry_cmp (slice_cmp nat_cmp)) (flat_map E all)
  by_term some none all items moved rise =
      same_ranks flat_cmp flat_total (flat_map S items) (sorted flat_cmp (flat_map E all)) (entries_ascend items rise) (sorted_ascends flat_cmp flat_total (flat_map E all))
      (λ z. same_rank some none all items moved rise z ∙ sym (sorted_level flat_cmp flat_total z (flat_map E all)))
