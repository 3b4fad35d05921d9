-- The exponent of a number is the only one between whose powers of two it lies, which gives the logarithm and its bounds.
use Rattle.shared_lemmas.proofs.Common.{◌≡◌, ℕ, zero, suc, ◌+◌, ◌-◌, ◌*◌, ◌/◌, ◌%◌, ◌^◌, ◌<◌, ◌≤◌, Bool, true, false, cond, nat_le, refl, ap, ⊎_elim, ◌∙◌, sym, arith, add-one, pow_mono, div-lt_iff_lt-mul, pow-suc, leb-true, leb-false, cases_lt, one_shl}
use Rattle.std.proofs.Common.{pow_pos}
use Rattle.weights.specs.Logarithm.{exponent_up_to, exponent_of, lg}

low_of : (b : Bool) (k rest x : ℕ) → nat_le (2 ^ suc k) x ≡ b → 2 ^ rest ≤ x → 2 ^ cond b (suc k) rest ≤ x
low_of true k rest x is below = leb-true _ _ is
low_of false k rest x is below = below

-- the power of the exponent is at most the number
exponent_up_to-low : (k x : ℕ) → 1 ≤ x → 2 ^ exponent_up_to k x ≤ x
exponent_up_to-low zero x some = some
exponent_up_to-low (suc k) x some = low_of (nat_le (2 ^ suc k) x) k (exponent_up_to k x) x refl (exponent_up_to-low k x some)

high_of : (b : Bool) (k rest x : ℕ) → nat_le (2 ^ suc k) x ≡ b → x < 2 ^ (suc k + 1) → (x < 2 ^ (k + 1) → x < 2 ^ (rest + 1))
    → x < 2 ^ (cond b (suc k) rest + 1)
high_of true k rest x is below next = below
high_of false k rest x is below next = next (rw add-one (leb-false _ _ is))

-- and the next power is above it
exponent_up_to-high : (k x : ℕ) → x < 2 ^ (k + 1) → x < 2 ^ (exponent_up_to k x + 1)
exponent_up_to-high zero x below = below
exponent_up_to-high (suc k) x below = high_of (nat_le (2 ^ suc k) x) k (exponent_up_to k x) x refl below (exponent_up_to-high k x)

-- a power of two that is at most x has an exponent below each whose power is above x
below_by_power : (x e f : ℕ) → 2 ^ e ≤ x → x < 2 ^ f → e < f
below_by_power x e f low high = ⊎_elim (λ before. before) (λ after. let far : 2 ^ f ≤ 2 ^ e = pow_mono after in absurd (omega arith)) (cases_lt e f)

pub exponent_of-low : (x : ℕ) → 1 ≤ x → 2 ^ exponent_of x ≤ x
unfolding exponent_of
exponent_of-low x some = exponent_up_to-low 63 x some

pub exponent_of-high : (x : ℕ) → x < 2 ^ 64 → x < 2 ^ (exponent_of x + 1)
unfolding exponent_of
exponent_of-high x fits = exponent_up_to-high 63 x fits

pub exponent_of-is : (x e : ℕ) → x < 2 ^ 64 → 2 ^ e ≤ x → x < 2 ^ (e + 1) → exponent_of x ≡ e
exponent_of-is x e fits low high =
    let some : 1 ≤ x = omega (arith, pow_pos e) in
    let above : e < exponent_of x + 1 = below_by_power x e (exponent_of x + 1) low (exponent_of-high x fits) in
    omega (arith, below_by_power x (exponent_of x) (e + 1) (exponent_of-low x some) high)

-- the logarithm by any exponent that fits
pub lg-is : (x e : ℕ) → x < 2 ^ 64 → 2 ^ e ≤ x → x < 2 ^ (e + 1) → lg x ≡ 1024 * e + (x - 2 ^ e) * 1024 / 2 ^ e
lg-is x e fits low high = ap (λ f. 1024 * f + (x - 2 ^ f) * 1024 / 2 ^ f) (exponent_of-is x e fits low high)

-- as the code computes it
pub lg-computed : (x e above : ℕ) → x < 2 ^ 64 → e < 64 → 2 ^ e ≤ x → x < 2 * 2 ^ e → above ≡ x - 1 * 2 ^ e % 2 ^ 64
    → 1024 * e + above * 1024 / 2 ^ e ≡ lg x
lg-computed x e above fits small low high is =
    let power : 1 * 2 ^ e % 2 ^ 64 ≡ 2 ^ e = one_shl e 64 small in
    let next : x < 2 ^ (e + 1) = rw (add-one, pow-suc) (omega arith) in
    let above_is : above ≡ x - 2 ^ e = is ∙ ap (λ p. x - p) power in
    ap (λ a. 1024 * e + a * 1024 / 2 ^ e) above_is ∙ sym (lg-is x e fits low next)

-- from a power of two on the logarithm is at least its exponent times 1,024
pub lg-at_least : (x e : ℕ) → x < 2 ^ 64 → 2 ^ e ≤ x → 1024 * e ≤ lg x
lg-at_least x e fits low = omega (arith, below_by_power x e (exponent_of x + 1) low (exponent_of-high x fits))

-- and below it less than that
pub lg-below : (x e : ℕ) → x < 2 ^ 64 → 1 ≤ x → x < 2 ^ e → lg x < 1024 * e
lg-below x e fits some high =
    let f : ℕ = exponent_of x in
    let next : x < 2 ^ f * 2 = rw (add-one, pow-suc) at (exponent_of-high x fits) in
    let fraction : (x - 2 ^ f) * 1024 / 2 ^ f < 1024 = (div-lt_iff_lt-mul (pow_pos f)).1 (omega arith) in
    omega (arith, below_by_power x f e (exponent_of-low x some) high)
