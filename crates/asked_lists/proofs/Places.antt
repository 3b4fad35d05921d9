-- The number that a term has among the terms that pass a test.
use Rattle.shared_lemmas.proofs.Common.{◌≡◌, ℕ, zero, suc, ◌+◌, ◌==◌, List, [], ◌∷◌, filter, map, Bool, true, false, cond, true≢false, refl, sym, ap, ◌∙◌, length, arith, nat_lt, nat_tests, position, position_or_len, Option, Some, None, option_map}
use Rattle.asked_lists.proofs.Below.{TermData, segments_at}

abbrev pub texts : List TermData → List (List ℕ)
texts terms = map (λ (t : TermData). t.term) terms

zero_suc : (n : ℕ) → (0 == suc n) ≡ false
zero_suc n = grind (arith, nat_tests)

suc_zero : (n : ℕ) → (suc n == 0) ≡ false
suc_zero n = grind (arith, nat_tests)

suc_suc : (m n : ℕ) → (suc m == suc n) ≡ (m == n)
suc_suc m n = grind (arith, nat_tests)

-- the first place, item by item
pub position_cons : {A : Type 0} (q : A → Bool) (x : A) (xs : List A) → position q (x ∷ xs) ≡ cond (q x) (Some 0) (option_map suc (position q xs))
position_cons {A} q x xs = step (q x) refl where
  later : (n m : ℕ) (b : Bool) → nat_lt n m ≡ b → cond (nat_lt (1 + n) (suc m)) (Some (1 + n)) None ≡ option_map suc (cond (nat_lt n m) (Some n) None)
  later n m true e = let f : nat_lt (1 + n) (suc m) ≡ true = grind (arith, nat_tests) in let same : 1 + n ≡ suc n = omega arith in rw (e, f) (ap (λ (k : ℕ). (let o : Option ℕ = Some k in o)) same)
  later n m false e = let f : nat_lt (1 + n) (suc m) ≡ false = grind (arith, nat_tests) in rw (e, f) refl

  step : (b : Bool) → q x ≡ b → position q (x ∷ xs) ≡ cond (q x) (Some 0) (option_map suc (position q xs))
  step true e = rw e (let f : nat_lt 0 (suc (length xs)) ≡ true = grind (arith, nat_tests) in rw f refl)
  step false e = rw e (later (position_or_len q xs) (length xs) (nat_lt (position_or_len q xs) (length xs)) refl)

module _ (p : TermData → Bool) where
  -- whether the term with a number passes
  abbrev pub passes_at : List TermData → ℕ → Bool
  passes_at [] n = false
  passes_at (t ∷ ts) zero = p t
  passes_at (t ∷ ts) (suc n) = passes_at ts n

  -- how many terms before that pass
  abbrev pub number_in : List TermData → ℕ → ℕ
  number_in [] n = 0
  number_in (t ∷ ts) zero = 0
  number_in (t ∷ ts) (suc n) = cond (p t) (suc (number_in ts n)) (number_in ts n)

  pub same_segments : (ts : List TermData) (n : ℕ) → passes_at ts n ≡ true → segments_at (filter p ts) (number_in ts n) ≡ segments_at ts n
  same_segments [] n is = absurd (true≢false (sym is))
  same_segments (t ∷ ts) zero is = rw is refl
  same_segments (t ∷ ts) (suc n) is = step (p t) refl (same_segments ts n is) where
    step : (b : Bool) → p t ≡ b → segments_at (filter p ts) (number_in ts n) ≡ segments_at ts n → segments_at (filter p (t ∷ ts)) (number_in (t ∷ ts) (suc n)) ≡ segments_at (t ∷ ts) (suc n)
    step true e rest = rw e rest
    step false e rest = rw e rest

  -- two terms that pass keep two numbers
  pub same_number : (ts : List TermData) (m n : ℕ) → passes_at ts m ≡ true → passes_at ts n ≡ true → (number_in ts m == number_in ts n) ≡ (m == n)
  same_number [] m n a b = absurd (true≢false (sym a))
  same_number (t ∷ ts) zero zero a b = refl
  same_number (t ∷ ts) zero (suc n) a b = rw a (zero_suc (number_in ts n) ∙ sym (zero_suc n))
  same_number (t ∷ ts) (suc m) zero a b = rw b (suc_zero (number_in ts m) ∙ sym (suc_zero m))
  same_number (t ∷ ts) (suc m) (suc n) a b = step (p t) refl (same_number ts m n a b) where
    step : (b : Bool) → p t ≡ b → (number_in ts m == number_in ts n) ≡ (m == n) → (number_in (t ∷ ts) (suc m) == number_in (t ∷ ts) (suc n)) ≡ (suc m == suc n)
    step true e rest = rw e (suc_suc (number_in ts m) (number_in ts n) ∙ rest ∙ sym (suc_suc m n))
    step false e rest = rw e (rest ∙ sym (suc_suc m n))

  module _ (q : List ℕ → Bool) (has : (t : TermData) → q t.term ≡ true → p t ≡ true) where
    -- the first term that has a text passes
    pub found_passes : (ts : List TermData) (n : ℕ) → position q (texts ts) ≡ Some n → passes_at ts n ≡ true
    found_passes [] n is = cc
    found_passes (t ∷ ts) n is = step (λ m f. found_passes ts m f) (q t.term) refl (position q (texts ts)) refl (sym (position_cons q t.term (texts ts)) ∙ is) where
      step : ((m : ℕ) → position q (texts ts) ≡ Some m → passes_at ts m ≡ true) → (b : Bool) → q t.term ≡ b → (o : Option ℕ) → position q (texts ts) ≡ o → cond (q t.term) (Some 0) (option_map suc (position q (texts ts))) ≡ Some n → passes_at (t ∷ ts) n ≡ true
      step there true e o f k = let s : Some 0 ≡ Some n = rw e at k in let z : 0 ≡ n = cc in rw (← z) (has t e)
      step there false e None f k = let s = rw (e, f) at k in cc
      step there false e (Some m) f k = let s : Some (suc m) ≡ Some n = rw (e, f) at k in let z : suc m ≡ n = cc in rw (← z) (there m f)

    -- and has its number among those that pass
    pub found_in : (ts : List TermData) → position q (texts (filter p ts)) ≡ option_map (number_in ts) (position q (texts ts))
    found_in [] = refl
    found_in (t ∷ ts) = step (p t) refl (q t.term) refl (found_in ts) ∙ sym (ap (option_map (number_in (t ∷ ts))) (position_cons q t.term (texts ts))) where
      Later : Type 0
      Later = position q (texts (filter p ts)) ≡ option_map (number_in ts) (position q (texts ts))

      kept : (o : Option ℕ) → p t ≡ true → option_map suc (option_map (number_in ts) o) ≡ option_map (number_in (t ∷ ts)) (option_map suc o)
      kept None e = refl
      kept (Some n) e = rw e refl

      dropped : (o : Option ℕ) → p t ≡ false → option_map (number_in ts) o ≡ option_map (number_in (t ∷ ts)) (option_map suc o)
      dropped None e = refl
      dropped (Some n) e = rw e refl

      step : (b : Bool) → p t ≡ b → (c : Bool) → q t.term ≡ c → Later → position q (texts (filter p (t ∷ ts))) ≡ option_map (number_in (t ∷ ts)) (cond (q t.term) (Some 0) (option_map suc (position q (texts ts))))
      step true e true f rest = rw e (position_cons q t.term (texts (filter p ts)) ∙ rw f refl)
      step true e false f rest = rw e (position_cons q t.term (texts (filter p ts)) ∙ rw f (ap (option_map suc) rest ∙ kept (position q (texts ts)) e))
      step false e true f rest = absurd (true≢false (sym (has t f) ∙ e))
      step false e false f rest = rw (e, f) (rest ∙ dropped (position q (texts ts)) e)
