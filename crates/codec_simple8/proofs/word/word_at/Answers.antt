use Rattle.shared_lemmas.proofs.Common.{◌≡◌, ℕ, suc, ◌+◌, ◌<◌, ◌≤◌, ◌^◌, List, [], ◌∷◌, take, drop, length, get_or, ◌⊎◌, inl, inr, refl, ap, ◌∙◌, arith, w64, from_le_bytes, number_l, cases_lt, get_or-drop, get_or-take, get_or_past, length-take, length-take-le, mod-eq_of_lt}
use Rattle.std.proofs.Common.{length-drop}
use Rattle.codec_simple8.specs.Simple8.{word_in}
use Rattle.codec_simple8.proofs.Digits.{Below, Below-cons, number_below}
use Rattle.codec_simple8.proofs.word.word_at.Goals as goal

-- eight bytes as a number
eight : (xs : List ℕ) → length xs ≡ 8 → number_l 256 xs ≡ from_le_bytes w64 xs
eight [] size = absurd (omega arith)
eight (a ∷ []) size = absurd (omega arith)
eight (a ∷ b ∷ []) size = absurd (omega arith)
eight (a ∷ b ∷ c ∷ []) size = absurd (omega arith)
eight (a ∷ b ∷ c ∷ d ∷ []) size = absurd (omega arith)
eight (a ∷ b ∷ c ∷ d ∷ e ∷ []) size = absurd (omega arith)
eight (a ∷ b ∷ c ∷ d ∷ e ∷ f ∷ []) size = absurd (omega arith)
eight (a ∷ b ∷ c ∷ d ∷ e ∷ f ∷ g ∷ []) size = absurd (omega arith)
eight (a ∷ b ∷ c ∷ d ∷ e ∷ f ∷ g ∷ h ∷ []) size = omega arith
eight (a ∷ b ∷ c ∷ d ∷ e ∷ f ∷ g ∷ h ∷ i ∷ xs) size = absurd (omega arith)

bytes_below : (xs : List ℕ) → ((i : ℕ) → get_or xs i 0 < 256) → Below 256 xs
bytes_below [] small = refl
bytes_below (x ∷ xs) small = Below-cons 256 x xs (small 0) (bytes_below xs (λ i. small (suc i)))

pub returns : goal.returns
unfolding word_in
returns c =
    let size = length-take-le 8 (drop c.args.at c.args.bytes.now) (omega (arith, length-drop c.args.at c.args.bytes.now, c.requires)) in
    let below = number_below 256 (take 8 (drop c.args.at c.args.bytes.now)) (bytes_below (take 8 (drop c.args.at c.args.bytes.now)) (λ i. small i (cases_lt i 8))) in
    let fits : number_l 256 (take 8 (drop c.args.at c.args.bytes.now)) < 2 ^ 64 = omega (arith, below, ap (λ n. 256 ^ n) size) in
    mod-eq_of_lt fits ∙ eight (take 8 (drop c.args.at c.args.bytes.now)) size
  where
    small : (i : ℕ) → (i < 8) ⊎ (8 ≤ i) → get_or (take 8 (drop c.args.at c.args.bytes.now)) i 0 < 256
    small i (inl inside) = rw (get_or-take 8 (drop c.args.at c.args.bytes.now) i 0 inside, get_or-drop c.args.at c.args.bytes.now i 0) (c.type_inv.bytes (c.args.at + i)).fits
    small i (inr outside) = rw (get_or_past (take 8 (drop c.args.at c.args.bytes.now)) i 0 (omega (arith, length-take 8 (drop c.args.at c.args.bytes.now), outside))) (omega arith)
