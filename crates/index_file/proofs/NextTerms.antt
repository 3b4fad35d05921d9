-- Whether a front coded term may follow the one before it, seen from its rest.
use Rattle.shared_lemmas.proofs.Common.{◌≡◌, ◌+◌, ◌≤◌, ◌==◌, ◌&&◌, ◌||◌, not, Bool, true, false, ℕ, suc, zero, nat_lt, nat_le, nat_eq, List, [], ◌∷◌, ◌++◌, length, take, slice_index, ap, sym, subst, ◌∙◌, refl, arith, is_lt, nat_cmp, slice_cmp, nat_tests, common_prefix_len-le}
use Rattle.index_layout.specs.Layout.{shared_with}

-- what the code asks
abbrev pub follows : List ℕ → ℕ → List ℕ → Bool
follows before shared rest = nat_le shared (length before) && not (length rest == 0) && (shared == length before || nat_lt (slice_index before shared) (slice_index rest 0))

next_test : (s k : ℕ) → (1 + s == suc k) ≡ (s == k)
next_test s k = by_answer (s == k) refl
  where
    by_answer : (b : Bool) → b ≡ (s == k) → (1 + s == suc k) ≡ (s == k)
    by_answer true is = let same : s ≡ k = grind (arith, nat_tests, is) in (let e : (1 + s == suc k) ≡ true = grind (arith, nat_tests, same) in e ∙ is)
    by_answer false is = (let e : (1 + s == suc k) ≡ false = grind (arith, nat_tests, is) in e ∙ is)

same_length : (s k : ℕ) → (suc s == suc k) ≡ (s == k)
same_length s k = (let e : suc s ≡ 1 + s = omega arith in ap (λ n. n == suc k) e) ∙ next_test s k

next_bound : (s k : ℕ) → nat_le (suc s) (suc k) ≡ nat_le s k
next_bound s k = by_answer (nat_le s k) refl
  where
    by_answer : (b : Bool) → b ≡ nat_le s k → nat_le (suc s) (suc k) ≡ nat_le s k
    by_answer true is = (let e : nat_le (suc s) (suc k) ≡ true = grind (arith, nat_tests, is) in e ∙ is)
    by_answer false is = (let e : nat_le (suc s) (suc k) ≡ false = grind (arith, nat_tests, is) in e ∙ is)

by_answers : (x : ℕ) (before : List ℕ) (y : ℕ) (rest : List ℕ) (less same : Bool) → less ≡ nat_lt x y → same ≡ nat_eq x y
    → (shared_with (x ∷ before) (y ∷ rest) == 0 && is_lt (slice_cmp nat_cmp (x ∷ before) (y ∷ rest))) ≡ follows (x ∷ before) 0 (y ∷ rest)
by_answers x before y rest true true less same = absurd (grind (arith, nat_tests, less, same))
by_answers x before y rest true false less same =
    let e : nat_le 0 (length (x ∷ before)) ≡ true = grind (arith, nat_tests) in
    let f : (length (y ∷ rest) == 0) ≡ false = grind (arith, nat_tests) in
    let g : (0 == length (x ∷ before)) ≡ false = grind (arith, nat_tests) in
    rw (sym less, sym same, e, f, g) refl
by_answers x before y rest false true less same =
    let e : nat_le 0 (length (x ∷ before)) ≡ true = grind (arith, nat_tests) in
    let f : (length (y ∷ rest) == 0) ≡ false = grind (arith, nat_tests) in
    let g : (0 == length (x ∷ before)) ≡ false = grind (arith, nat_tests) in
    let h : (1 + shared_with before rest == 0) ≡ false = grind (arith, nat_tests) in
    rw (sym less, sym same, e, f, g, h) refl
by_answers x before y rest false false less same =
    let e : nat_le 0 (length (x ∷ before)) ≡ true = grind (arith, nat_tests) in
    let f : (length (y ∷ rest) == 0) ≡ false = grind (arith, nat_tests) in
    let g : (0 == length (x ∷ before)) ≡ false = grind (arith, nat_tests) in
    rw (sym less, sym same, e, f, g) refl

pub follows_is : (before rest : List ℕ) (shared : ℕ) → (shared_with before (take shared before ++ rest) == shared && is_lt (slice_cmp nat_cmp before (take shared before ++ rest))) ≡ follows before shared rest
follows_is [] [] zero = refl
follows_is [] (y ∷ rest) zero = let e : (length (y ∷ rest) == 0) ≡ false = grind (arith, nat_tests) in rw e refl
follows_is [] rest (suc k) =
    let e : (0 == suc k) ≡ false = grind (arith, nat_tests) in
    let f : nat_le (suc k) 0 ≡ false = grind (arith, nat_tests) in
    rw (e, f) refl
follows_is (x ∷ before) [] zero = let e : nat_le 0 (length (x ∷ before)) ≡ true = grind (arith, nat_tests) in rw e refl
follows_is (x ∷ before) (y ∷ rest) zero = by_answers x before y rest (nat_lt x y) (nat_eq x y) refl refl
follows_is (x ∷ before) rest (suc k) =
    let same : nat_eq x x ≡ true = grind (arith, nat_tests) in
    let lower : nat_lt x x ≡ false = grind (arith, nat_tests) in
    rw (same, lower, next_test (shared_with before (take k before ++ rest)) k, next_bound k (length before), same_length k (length before)) (follows_is before rest k)

-- a term has no more bytes of the one before than that has
pub shared_fits : (before term : List ℕ) (shared : ℕ) (rises : Bool) → (shared_with before term == shared && rises) ≡ true → shared ≤ length before
shared_fits before term shared true is = let e : shared_with before term ≡ shared = grind (arith, nat_tests, is) in subst (λ n. n ≤ length before) e (common_prefix_len-le nat_eq before term).0
shared_fits before term shared false is = absurd (grind (arith, nat_tests, is))
