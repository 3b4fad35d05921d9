-- Marking one number more changes that number alone.
use Rattle.shared_lemmas.proofs.Common.{◌≡◌, ◌≢◌, ℕ, zero, suc, ◌*◌, ◌/◌, ◌%◌, ◌^◌, ◌<◌, Bool, true, false, List, [], ◌∷◌, ◌++◌, length, get_or, set, replicate, refl, sym, ap, ◌∙◌, arith, inl, inr, get_or-set_same, get_or-set_other, ◌||◌, nat_eq, bit_or, bit_at, w64, cases_eq, nat_tests}
use Rattle.shared_lemmas.proofs.Common.{bit_at_set_same, bit_at_set_other}
use Rattle.ciff_read.specs.Marks.{is_marked}
use Rattle.shared_lemmas.proofs.Places.{same_there}

zeros_behind : (words : List ℕ) (more k : ℕ) → get_or (words ++ replicate more 0) k 0 ≡ get_or words k 0
zeros_behind [] more k = same_there 0 more k
zeros_behind (w ∷ words) more zero = refl
zeros_behind (w ∷ words) more (suc k) = zeros_behind words more k

-- words made longer mark the same numbers
pub marked_behind : (words : List ℕ) (more n : ℕ) → is_marked (words ++ replicate more 0) n ≡ is_marked words n
marked_behind words more n = ap (λ w. nat_eq (bit_at w (n % 64)) 1) (zeros_behind words more (n / 64))

-- a number's bit that is set in its word
abbrev pub with_bit : List ℕ → ℕ → List ℕ
with_bit words n = set words (n / 64) (bit_or (get_or words (n / 64) 0) (1 * 2 ^ (n % 64) % 2 ^ 64))

pub marked_with : (words : List ℕ) (doc n : ℕ) → doc / 64 < length words → is_marked (with_bit words doc) n ≡ (nat_eq n doc || is_marked words n)
marked_with words doc n inside =
    let word = get_or words (doc / 64) 0 in
    let new = bit_or word (1 * 2 ^ (doc % 64) % 2 ^ 64) in
    let within : doc % 64 < 64 = omega arith in
    elim (cases_eq n doc) [
      | inl same ↦
          let is : nat_eq n doc ≡ true = grind (arith, nat_tests) in
          let got : get_or (with_bit words doc) (n / 64) 0 ≡ new = ap (λ k. get_or (with_bit words doc) (k / 64) 0) same ∙ get_or-set_same words (doc / 64) new 0 inside in
          let bit : bit_at (get_or (with_bit words doc) (n / 64) 0) (n % 64) ≡ 1 = ap (λ w. bit_at w (n % 64)) got ∙ ap (λ k. bit_at new (k % 64)) same ∙ bit_at_set_same w64 word (doc % 64) within in
          ap (λ b. nat_eq b 1) bit ∙ ap (λ (t : Bool). t || is_marked words n) (sym is)
      | inr other ↦
          let is : nat_eq n doc ≡ false = grind (arith, nat_tests) in
          let bit : bit_at (get_or (with_bit words doc) (n / 64) 0) (n % 64) ≡ bit_at (get_or words (n / 64) 0) (n % 64) =
          elim (cases_eq (n / 64) (doc / 64)) [
            | inl word_same ↦
                let apart : n % 64 ≢ doc % 64 = λ low. other (omega (arith, low, word_same)) in
                ap (λ k. bit_at (get_or (with_bit words doc) k 0) (n % 64)) word_same ∙ ap (λ w. bit_at w (n % 64)) (get_or-set_same words (doc / 64) new 0 inside)
                ∙ bit_at_set_other w64 word (doc % 64) within (n % 64) apart ∙ ap (λ k. bit_at (get_or words k 0) (n % 64)) (sym word_same)
            | inr word_other ↦ ap (λ w. bit_at w (n % 64)) (get_or-set_other words (doc / 64) (n / 64) new 0 word_other)
          ] in
          ap (λ b. nat_eq b 1) bit ∙ ap (λ (t : Bool). t || is_marked words n) (sym is)
    ]
