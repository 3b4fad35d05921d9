-- How large the parts of a weight and an impact can be.
use Rattle.shared_lemmas.proofs.Common.{◌≡◌, ℕ, ◌+◌, ◌*◌, ◌/◌, ◌%◌, ◌^◌, ◌<◌, ◌≤◌, max, min, sym, ap, ◌∙◌, arith, pow_mono, ⊎_elim, div-le_self, div-le_of_le-mul, div-eq_of_lt, mul_assoc, mul-le-mul_right, cases_lt, le-div, one_shl}
use Rattle.weights.specs.Logarithm.{lg}
use Rattle.weights.specs.Weighting.{saturated}
use Rattle.weights.proofs.Exponents.{lg-at_least, lg-below}

-- how many documents there are for one posting of a term, times 1,024
pub rarity_bounds : (docs n : ℕ) → 1 ≤ n → n ≤ docs → docs ≤ 2 ^ 26
    → (1024 ≤ 1024 * (docs + 1) / n) × (1024 * (docs + 1) / n < 2 ^ 37)
rarity_bounds docs n some within limit = (le-div 1024 (1024 * (docs + 1)) n some (omega arith), omega (arith, div-le_self (1024 * (docs + 1)) n))

pub lg_of_rarity : (docs n : ℕ) → 1 ≤ n → n ≤ docs → docs ≤ 2 ^ 26
    → (10240 ≤ lg (1024 * (docs + 1) / n)) × (lg (1024 * (docs + 1) / n) < 37888)
lg_of_rarity docs n some within limit =
    let x : ℕ = 1024 * (docs + 1) / n in
    let bounds : (1024 ≤ x) × (x < 2 ^ 37) = rarity_bounds docs n some within limit in
    (lg-at_least x 10 (omega arith) bounds.0, lg-below x 37 (omega arith) (omega arith) bounds.1)

-- a place in a range is at most as many steps as there are
pub place-le : (above steps width : ℕ) → above ≤ width → above * steps / width ≤ steps
place-le above steps width within = div-le_of_le-mul width (mul-le-mul_right steps within)

-- the steps of b bits
pub steps_of : (b : ℕ) → 1 ≤ b → b ≤ 16 → (1 * 2 ^ b % 2 ^ 64 ≡ 2 ^ b) × (2 ≤ 2 ^ b) × (2 ^ b ≤ 2 ^ 16)
steps_of b some limit = (one_shl b 64 (omega arith), pow_mono {i = 1} some, pow_mono limit)

-- a norm above the cut leaves no weight above 1
pub saturated_cut : (rare tf norm : ℕ) → rare < 27648 → tf < 2 ^ 31
    → max 1 (saturated rare tf (min norm (2 ^ 63))) ≡ max 1 (saturated rare tf norm)
saturated_cut rare tf norm low few =
    ⊎_elim
    (λ below. let same : min norm (2 ^ 63) ≡ norm = omega arith in ap (λ n. max 1 (saturated rare tf n)) same)
    (λ above.
    let most : rare * (1900 * tf) ≤ 27648 * (1900 * tf) = mul-le-mul_right (1900 * tf) (omega arith) in
    let gain : rare * 1900 * tf < 2 ^ 63 = omega (arith, most, mul_assoc rare 1900 tf) in
    let cut : saturated rare tf (min norm (2 ^ 63)) ≡ 0 = div-eq_of_lt (omega (arith, gain)) in
    let none : saturated rare tf norm ≡ 0 = div-eq_of_lt (omega (arith, gain)) in
    ap (λ n. max 1 n) (cut ∙ sym none))
    (cases_lt norm (2 ^ 63))
