-- Scores with gains, by places, and the order of two hits where one of them gains.
use Rattle.shared_lemmas.proofs.Common.{◌≡◌, ◌≢◌, ℕ, zero, suc, ◌+◌, ◌≤◌, List, [], ◌∷◌, length, get_or, true, false, refl, arith, is_lt, nat_tests, replicate, length-replicate, AllZip}
use Rattle.ranking_model.specs.Scores.{rank_cmp}
use Rattle.ranking_model.specs.Finality.{AreGainsWithin, raised}
use Rattle.sharp_bounds.specs.Rule.{AreLimits}
use Rattle.sharp_bounds.proofs.Settling.{limit_small}

-- ---- scores with gains

pub raised_at : (scores gains : List ℕ) → length gains ≡ length scores → (i : ℕ) → get_or (raised scores gains) i 0 ≡ get_or scores i 0 + get_or gains i 0
raised_at [] [] same i = omega arith
raised_at [] (g ∷ gains) same i = absurd (omega arith)
raised_at (s ∷ scores) [] same i = absurd (omega arith)
raised_at (s ∷ scores) (g ∷ gains) same zero = refl
raised_at (s ∷ scores) (g ∷ gains) same (suc i) = raised_at scores gains (omega arith) i

pub length_raised : (scores gains : List ℕ) → length (raised scores gains) ≡ length scores
length_raised [] gains = refl
length_raised (s ∷ scores) [] = refl
length_raised (s ∷ scores) (g ∷ gains) = let rest = length_raised scores gains in omega arith

-- nothing is gained
pub raised_zero : (scores : List ℕ) → raised scores (replicate (length scores) 0) ≡ scores
raised_zero [] = refl
raised_zero (s ∷ scores) = let first : s + 0 ≡ s = omega arith in let rest = raised_zero scores in λ i. first i ∷ rest i

pub zeros_within : (limits scores : List ℕ) → length limits ≡ length scores → AreGainsWithin limits scores (replicate (length scores) 0)
zeros_within limits scores same = record { each = length-replicate (length scores) 0; within = below limits scores same } where
  below : (limits scores : List ℕ) → length limits ≡ length scores → AllZip (λ gain limit. gain ≤ limit) (replicate (length scores) 0) limits
  below [] [] same = tt
  below [] (s ∷ scores) same = absurd (omega arith)
  below (l ∷ limits) [] same = absurd (omega arith)
  below (l ∷ limits) (s ∷ scores) same = (omega arith, below limits scores (omega arith))

-- ---- reaches

-- nobody reaches more than the score with what is left
pub reach_low : (scores limits : List ℕ) (rest doc : ℕ) → AreLimits rest scores limits → get_or (raised scores limits) doc 0 ≤ get_or scores doc 0 + rest
reach_low scores limits rest doc are = let a = raised_at scores limits are.each doc in let b = limit_small rest limits are.within doc in omega arith

-- ---- two hits

-- whoever is before a hit isn't after one that is no better, whatever it gains
pub still_ahead : (d e a b low high : ℕ) → a ≤ b → low ≤ high → is_lt (rank_cmp (record { doc = e; score = a }) (record { doc = d; score = high })) ≡ true → is_lt (rank_cmp (record { doc = d; score = low }) (record { doc = e; score = b })) ≡ false
still_ahead d e a b low high up down less = grind (arith, nat_tests)

pub not_ahead : (d a b : ℕ) → a ≤ b → is_lt (rank_cmp (record { doc = d; score = a }) (record { doc = d; score = b })) ≡ false
not_ahead d a b up = grind (arith, nat_tests)

pub other_way : (d e a b : ℕ) → d ≢ e → is_lt (rank_cmp (record { doc = d; score = a }) (record { doc = e; score = b })) ≡ false → is_lt (rank_cmp (record { doc = e; score = b }) (record { doc = d; score = a })) ≡ true
other_way d e a b apart less = grind (arith, nat_tests)

-- whoever reaches a better score with less reaches the worse one with more
pub still_reached : (d e a b low high : ℕ) → a ≤ b → low ≤ high → is_lt (rank_cmp (record { doc = d; score = high }) (record { doc = e; score = a })) ≡ false → is_lt (rank_cmp (record { doc = d; score = low }) (record { doc = e; score = b })) ≡ false
still_reached d e a b low high up down less = grind (arith, nat_tests)
