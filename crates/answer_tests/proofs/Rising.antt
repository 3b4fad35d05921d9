-- How far scores rise in a row of additions.
use Rattle.shared_lemmas.proofs.Common.{◌≡◌, ℕ, zero, suc, ◌+◌, ◌*◌, ◌^◌, ◌<◌, ◌≤◌, List, [], ◌∷◌, length, get_or, set, inl, inr, ◌⊎◌, sym, ap, subst, arith, All, cases_lt, get_or_past, replicate, All-from_get_or, All-get_or, mul-add}
use Rattle.ranking_model.specs.Scores.{added}

rises : (w m doc : ℕ) (s : List ℕ) → ((i : ℕ) → get_or s i 0 ≤ m) → (i : ℕ) → get_or (set s doc (get_or s doc 0 + w)) i 0 ≤ m + w
rises w m doc [] below i = omega arith
rises w m zero (x ∷ s) below zero = (let b = below 0 in omega arith)
rises w m zero (x ∷ s) below (suc i) = (let b = below (suc i) in omega arith)
rises w m (suc doc) (x ∷ s) below zero = (let b = below 0 in omega arith)
rises w m (suc doc) (x ∷ s) below (suc i) = rises w m doc s (λ j. below (suc j)) i

added_most : (w m : ℕ) (docs s : List ℕ) → ((i : ℕ) → get_or s i 0 ≤ m) → (i : ℕ) → get_or (added w docs s) i 0 ≤ m + w * length docs
added_most w m [] s below i = (let b = below i in omega arith)
added_most w m (doc ∷ docs) s below i =
    let rest = added_most w (m + w) docs (set s doc (get_or s doc 0 + w)) (rises w m doc s below) i in
    let product : w * (1 + length docs) ≡ w * 1 + w * length docs = mul-add w 1 (length docs) in
    let size : length (doc ∷ docs) ≡ 1 + length docs = omega arith in
    let whole : w * length (doc ∷ docs) ≡ w * (1 + length docs) = ap (λ (n : ℕ). w * n) size in
    omega (arith, rest, product, whole)

each_most : (m : ℕ) (s : List ℕ) → All (λ score. score ≤ m) s → (i : ℕ) → get_or s i 0 ≤ m
each_most m s all i = by (cases_lt i (length s)) where
  by : (i < length s) ⊎ (length s ≤ i) → get_or s i 0 ≤ m
  by (inl inside) = All-get_or (λ score. score ≤ m) s i 0 inside all
  by (inr past) = (let e = get_or_past s i 0 past in omega arith)

-- no score is above n, which is by as much above m as the weights come to
pub most_after : (w m n : ℕ) (docs s s' : List ℕ) → n ≡ m + w * length docs → s' ≡ added w docs s → All (λ score. score ≤ m) s → All (λ score. score ≤ n) s'
most_after w m n docs s s' most is all = subst (λ (x : List ℕ). All (λ score. score ≤ n) x) (sym is)
    (All-from_get_or (λ score. score ≤ n) (added w docs s) 0 (λ i inside. omega (arith, most, added_most w m docs s (each_most m s all) i)))

-- scores fit where the greatest one and what is added to it do
pub fits_after : (w m n : ℕ) (docs s : List ℕ) → n ≡ m + w * length docs → n < 2 ^ 32 → All (λ score. score ≤ m) s → All (λ score. score < 2 ^ 32) (added w docs s)
fits_after w m n docs s most low all = All-from_get_or (λ score. score < 2 ^ 32) (added w docs s) 0
    (λ i inside. omega (arith, most, low, added_most w m docs s (each_most m s all) i))

-- scores that are all 0 are at most 0
none : (n k d : ℕ) → k < length {A = ℕ} (replicate n 0) → get_or {A = ℕ} (replicate n 0) k d ≤ 0
none zero k d inside = absurd (omega arith)
none (suc n) zero d inside = omega arith
none (suc n) (suc k) d inside = none n k d (omega arith)

pub most_at_first : (n : ℕ) (s : List ℕ) → s ≡ replicate n 0 → All (λ score. score ≤ 0) s
most_at_first n s is = subst (λ (x : List ℕ). All (λ score. score ≤ 0) x) (sym is) (λ k d inside. none n k d inside)
