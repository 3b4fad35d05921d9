use Rattle.shared_lemmas.proofs.Common.{◌≡◌, ℕ, zero, suc, ◌+◌, ◌*◌, ◌/◌, ◌%◌, ◌^◌, ◌<◌, ◌≤◌, List, [], ◌∷◌, take, drop, length, get_or, number_l, ◌⊎◌, inl, inr, refl, sym, ap, ◌∙◌, arith, cases_lt, get_or-drop, get_or-take, get_or_past, length-take, length-take-le, length-drop, mod-eq_of_lt, pow-suc}
use Rattle.std.proofs.Math.Nat.{div-div-eq-div-mul, zero-div}
use Rattle.ciff_read.proofs.usual.word_at.Goals as goal

below : (xs : List ℕ) → ((i : ℕ) → get_or xs i 0 < 256) → number_l 256 xs < 256 ^ length xs
below [] small = omega arith
below (x ∷ xs) small = let rest = below xs (λ i. small (suc i)) in omega (arith, small 0, rest, pow-suc 256 (length xs))

byte : (xs : List ℕ) → ((i : ℕ) → get_or xs i 0 < 256) → (i : ℕ) → get_or xs i 0 ≡ number_l 256 xs / 256 ^ i % 256
byte [] small i = sym (ap (λ n. n % 256) (zero-div (256 ^ i)))
byte (x ∷ xs) small zero = omega (arith, small 0)
byte (x ∷ xs) small (suc i) =
    let n = number_l 256 xs in
    let rest : n ≡ (x + 256 * n) / 256 = omega (arith, small 0) in
    let power : 256 * 256 ^ i ≡ 256 ^ suc i = omega (arith, pow-suc 256 i) in
    byte xs (λ i. small (suc i)) i ∙ ap (λ m. m / 256 ^ i % 256) rest ∙ ap (λ m. m % 256) (div-div-eq-div-mul (x + 256 * n) 256 (256 ^ i) ∙ ap (λ p. (x + 256 * n) / p) power)

pub returns : goal.returns
returns c =
    let s = take 8 (drop c.args.at c.args.bytes.now) in
    let size : length s ≡ 8 = length-take-le 8 (drop c.args.at c.args.bytes.now) (omega (arith, length-drop c.args.at c.args.bytes.now, c.requires)) in
    let fits : number_l 256 s < 2 ^ 64 = omega (arith, below s (λ i. small i (cases_lt i 8)), ap (λ n. 256 ^ n) size) in
    λ i inside. sym (there i inside) ∙ byte s (λ i. small i (cases_lt i 8)) i ∙ ap (λ n. n / 256 ^ i % 256) (sym (mod-eq_of_lt fits))
  where
    there : (i : ℕ) → i < 8 → get_or (take 8 (drop c.args.at c.args.bytes.now)) i 0 ≡ get_or c.args.bytes.now (c.args.at + i) 0
    there i inside = get_or-take 8 (drop c.args.at c.args.bytes.now) i 0 inside ∙ get_or-drop c.args.at c.args.bytes.now i 0

    small : (i : ℕ) → (i < 8) ⊎ (8 ≤ i) → get_or (take 8 (drop c.args.at c.args.bytes.now)) i 0 < 256
    small i (inl inside) = rw (there i inside) (c.type_inv.bytes (c.args.at + i)).fits
    small i (inr outside) = rw (get_or_past (take 8 (drop c.args.at c.args.bytes.now)) i 0 (omega (arith, length-take 8 (drop c.args.at c.args.bytes.now), outside))) (omega arith)
