-- Sums over all documents of some scores, and counts of hits as such sums.
use Rattle.shared_lemmas.proofs.Common.{◌≡◌, ◌≢◌, ℕ, suc, ◌+◌, ◌<◌, ◌≤◌, ◌==◌, List, [], ◌∷◌, length, get_or, count_by, Bool, true, false, cond, refl, arith, inl, inr, ◌⊎◌, cases_Bool, eqb-true, eq-eqb, nat_tests, sum_by-cons}
use Rattle.jass_base.specs.declared.answer.Hit.{Hit}
use Rattle.ranking_model.specs.Scores.{hits_from}

-- what all documents from one on add
abbrev pub total : (ℕ → ℕ → ℕ) → ℕ → List ℕ → ℕ
total f from [] = 0
total f from (score ∷ scores) = f from score + total f (from + 1) scores

-- 1 for a document with a score that passes a test
abbrev pub passing : (Hit → Bool) → ℕ → ℕ → ℕ
passing p doc score = cond (score == 0) 0 (cond (p (record { doc = doc; score = score })) 1 0)

pub count_is : (p : Hit → Bool) (from : ℕ) (scores : List ℕ) → count_by p (hits_from from scores) ≡ total (passing p) from scores
count_is p from [] = refl
count_is p from (score ∷ scores) = step (score == 0) refl (count_is p (from + 1) scores) where
  step : (b : Bool) → (score == 0) ≡ b → count_by p (hits_from (from + 1) scores) ≡ total (passing p) (from + 1) scores → count_by p (hits_from from (score ∷ scores)) ≡ total (passing p) from (score ∷ scores)
  step true e rest = rw e (omega (arith, rest))
  step false e rest = rw e (omega (arith, rest, sum_by-cons (λ (h : Hit). cond (p h) 1 0) (record { doc = from; score = score }) (hits_from (from + 1) scores)))

pub passing_small : (p : Hit → Bool) (doc score : ℕ) → passing p doc score ≤ 1
passing_small p doc score = by (score == 0) (p (record { doc = doc; score = score })) where
  by : (z b : Bool) → cond {A = ℕ} z 0 (cond b 1 0) ≤ 1
  by true b = omega arith
  by false true = omega arith
  by false false = omega arith

pub passing_one : (p : Hit → Bool) (doc score : ℕ) → 1 ≤ score → p (record { doc = doc; score = score }) ≡ true → passing p doc score ≡ 1
passing_one p doc score some t = let f : (score == 0) ≡ false = grind (arith, nat_tests) in rw (f, t) refl

pub passing_none : (p : Hit → Bool) (doc score : ℕ) → p (record { doc = doc; score = score }) ≡ false → passing p doc score ≡ 0
passing_none p doc score f = by (score == 0) (p (record { doc = doc; score = score })) f where
  by : (z b : Bool) → b ≡ false → cond {A = ℕ} z 0 (cond b 1 0) ≡ 0
  by true b e = refl
  by false b e = rw e refl

pub passing_zero : (p : Hit → Bool) (doc score : ℕ) → score ≡ 0 → passing p doc score ≡ 0
passing_zero p doc score e = let t : (score == 0) ≡ true = eq-eqb score 0 e in rw t refl

pub total_plus : (f g : ℕ → ℕ → ℕ) (from : ℕ) (scores : List ℕ) → total (λ doc score. f doc score + g doc score) from scores ≡ total f from scores + total g from scores
total_plus f g from [] = refl
total_plus f g from (score ∷ scores) = omega (arith, total_plus f g (from + 1) scores)

pub total_le : (f g : ℕ → ℕ → ℕ) (from : ℕ) (low high : List ℕ) → length low ≡ length high → ((i : ℕ) → i < length low → f (from + i) (get_or low i 0) ≤ g (from + i) (get_or high i 0)) → total f from low ≤ total g from high
total_le f g from [] [] same each = omega arith
total_le f g from [] (h ∷ high) same each = absurd (omega arith)
total_le f g from (l ∷ low) [] same each = absurd (omega arith)
total_le f g from (l ∷ low) (h ∷ high) same each =
    let here : from + 0 ≡ from = omega arith in
    let first : f from l ≤ g from h = rw here at (each 0 (omega arith)) in
    let rest = total_le f g (from + 1) low high (omega arith) (λ i inside. let e : from + suc i ≡ from + 1 + i = omega arith in rw e at (each (suc i) (omega arith))) in
    omega arith

-- ---- one document

-- 1 for one document
abbrev pub own : ℕ → ℕ → ℕ → ℕ
own d doc score = cond (doc == d) 1 0

pub own_other : (d doc score : ℕ) → doc ≢ d → own d doc score ≡ 0
own_other d doc score apart = let f : (doc == d) ≡ false = grind (arith, nat_tests) in rw f refl

pub own_is : (d doc score : ℕ) → doc ≡ d → own d doc score ≡ 1
own_is d doc score e = let t : (doc == d) ≡ true = eq-eqb doc d e in rw t refl

none_before : (d from : ℕ) (scores : List ℕ) → d < from → total (own d) from scores ≡ 0
none_before d from [] before = refl
none_before d from (score ∷ scores) before = step (cases_Bool (from == d)) (none_before d (from + 1) scores (omega arith)) where
  step : ((from == d) ≡ true) ⊎ ((from == d) ≡ false) → total (own d) (from + 1) scores ≡ 0 → total (own d) from (score ∷ scores) ≡ 0
  step (inl t) rest = absurd (let e = eqb-true from d t in omega arith)
  step (inr f) rest = rw f (omega (arith, rest))

pub total_own : (d from : ℕ) (scores : List ℕ) → from ≤ d → d < from + length scores → total (own d) from scores ≡ 1
total_own d from [] low high = absurd (omega arith)
total_own d from (score ∷ scores) low high = step (cases_Bool (from == d)) (λ more. total_own d (from + 1) scores more (omega arith)) where
  step : ((from == d) ≡ true) ⊎ ((from == d) ≡ false) → (from + 1 ≤ d → total (own d) (from + 1) scores ≡ 1) → total (own d) from (score ∷ scores) ≡ 1
  step (inl t) rest = let e = eqb-true from d t in rw t (omega (arith, none_before d (from + 1) scores (omega arith)))
  step (inr f) rest = rw f (omega (arith, rest (apart f))) where
    apart : (from == d) ≡ false → from + 1 ≤ d
    apart f = grind (arith, nat_tests)
