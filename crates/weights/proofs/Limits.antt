-- Limits of whole weights and impacts, over plain numbers.
use Rattle.std.proofs.Common.{◌≡◌, ℕ, ◌+◌, ◌-◌, ◌*◌, ◌/◌, ◌^◌, ◌<◌, ◌≤◌, ◌==◌, Bool, true, false, cond, refl, arith, ◌∙◌, ap, pow_mono}
use Rattle.std.proofs.Math.Nat.{div-le_of_le-mul, mul-div_cancel_left, le-div_iff_mul-le, div-mul-le_self, mul-le-mul_right, le_trans}
use Rattle.std.proofs.lemmas.Bool.{eqb-true, eqb-false}
use Rattle.weights.specs.declared.weighting.Rule.{Rule}
use Rattle.weights.specs.declared.weighting.Rule.TheVariants.{Tf, Bm25}
use Rattle.weights.specs.declared.quantizing.Bits.{Bits}
use Rattle.weights.specs.declared.quantizing.Bits.TheVariants.{Raw, Of}
use Rattle.weights.specs.declared.quantizing.Range.{Range}
use Rattle.weights.specs.Weighting.{idf, length_norm, saturated, weight_of}
use Rattle.weights.specs.Quantizing.{IsInRange, impact_of}
use Rattle.weights.proofs.Bounds.{lg_of_rarity}

-- a quotient with the term frequency below the line too
pub saturated_le : (rare tf norm : ℕ) → saturated rare tf norm ≤ 2 * rare
saturated_le rare tf norm = div-le_of_le-mul (1000 * tf + norm) (omega arith)

pub weight_of-lt : (rule : Rule) (docs total n tf length : ℕ) → 1 ≤ n → n ≤ docs → docs ≤ 2 ^ 26 → tf < 2 ^ 31
    → weight_of rule docs total n tf length < 2 ^ 31
weight_of-lt Tf docs total n tf length some within limit few = few
weight_of-lt Bm25 docs total n tf length some within limit few =
    let rare = lg_of_rarity docs n some within limit in
    omega (arith, rare.1, saturated_le (idf docs n) tf (length_norm docs total length))

-- one end of a range or the other
either : (b : Bool) (p : ℕ) (P : ℕ → Type 0) → (b ≡ true → P 1) → (b ≡ false → P p) → P (cond b 1 p)
either true p P at_one apart = at_one refl
either false p P at_one apart = apart refl

pub impact_of-greatest : (b : ℕ) (range : Range) → 1 ≤ b → range.least < range.greatest
    → impact_of (Of b) range range.greatest ≡ 2 ^ b - 1
impact_of-greatest b range some apart =
    let two : 2 ^ 1 ≤ 2 ^ b = pow_mono some in
    let wide : 0 < range.greatest - range.least = omega arith in
    either (range.least == range.greatest) _ (λ p. p ≡ 2 ^ b - 1)
    (λ one. let same : range.least ≡ range.greatest = eqb-true _ _ one in absurd (omega arith))
    (λ _. ap (λ place. 1 + place) (mul-div_cancel_left (2 ^ b - 2) wide) ∙ omega arith)

-- more above the same line is no less
div-mono : (m n k : ℕ) → 0 < k → m ≤ n → m / k ≤ n / k
div-mono m n k some le = (le-div_iff_mul-le some).1 (le_trans (div-mul-le_self m k) le)

both : (b : Bool) (p q : ℕ) → (b ≡ false → p ≤ q) → cond b 1 p ≤ cond b 1 q
both true p q apart = omega arith
both false p q apart = apart refl

pub impact_of-rises : (bits : Bits) (range : Range) (v w : ℕ) → IsInRange bits range w → v ≤ w
    → impact_of bits range v ≤ impact_of bits range w
impact_of-rises Raw range v w holds le = omega arith
impact_of-rises (Of b) range v w holds le =
    both (range.least == range.greatest) _ _
    (λ apart.
    let ends : range.least ≡ range.greatest → ⊥ = eqb-false _ _ apart in
    let wide : 0 < range.greatest - range.least = omega arith in
    let above : v - range.least ≤ w - range.least = omega arith in
    omega (arith, div-mono _ _ _ wide (mul-le-mul_right (2 ^ b - 2) above)))
