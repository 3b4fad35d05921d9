-- BM25 rises with the term frequency and falls with the norm.
use Rattle.shared_lemmas.proofs.Common.{◌≡◌, ℕ, ◌+◌, ◌-◌, ◌*◌, ◌/◌, ◌≤◌, subst, arith, div-mul-le_self, le_of_mul-le-mul_right, le_trans, mul_assoc, mul-add, mul-le-mul_left, mul-le-mul_right, le-div}
use Rattle.weights.specs.Weighting.{saturated}

-- more below the line leaves no more
pub saturated-falls : (rare tf norm more : ℕ) → 1 ≤ tf → norm ≤ more → saturated rare tf more ≤ saturated rare tf norm
saturated-falls rare tf norm more some le =
    let gain : ℕ = rare * 1900 * tf in
    let q : ℕ = gain / (1000 * tf + more) in
    let wider : 1000 * tf + norm ≤ 1000 * tf + more = omega arith in
    le-div q gain (1000 * tf + norm) (omega arith) (le_trans (mul-le-mul_left q wider) (div-mul-le_self gain (1000 * tf + more)))

-- a quotient with the term frequency below the line too
grown : (a q tf d norm : ℕ) → 1 ≤ tf → q * (1000 * tf + norm) ≤ a * tf → q * (1000 * (tf + d) + norm) ≤ a * (tf + d)
grown a q tf d norm some fits =
    let own : q * (1000 * tf + norm) ≡ q * (1000 * tf) + q * norm = mul-add q (1000 * tf) norm in
    let theirs : q * (1000 * (tf + d) + norm) ≡ q * (1000 * (tf + d)) + q * norm = mul-add q (1000 * (tf + d)) norm in
    let mine : q * 1000 * tf ≡ q * (1000 * tf) = mul_assoc q 1000 tf in
    let low : q * 1000 ≤ a = le_of_mul-le-mul_right {m = q * 1000} {n = a} {k = tf} (omega (arith, own, mine, fits)) some in
    omega (arith, own, theirs, mine, fits, mul_assoc q 1000 (tf + d), mul-le-mul_right d low, mul-add (q * 1000) tf d, mul-add a tf d)

pub saturated-rises : (rare tf more norm : ℕ) → 1 ≤ tf → tf ≤ more → saturated rare tf norm ≤ saturated rare more norm
saturated-rises rare tf more norm some le =
    let a : ℕ = rare * 1900 in
    let q : ℕ = a * tf / (1000 * tf + norm) in
    let is : tf + (more - tf) ≡ more = omega arith in
    let fits : q * (1000 * more + norm) ≤ a * more
    = subst (λ (m : ℕ). q * (1000 * m + norm) ≤ a * m) is (grown a q tf (more - tf) norm some (div-mul-le_self (a * tf) (1000 * tf + norm))) in
    le-div q (a * more) (1000 * more + norm) (omega arith) fits
