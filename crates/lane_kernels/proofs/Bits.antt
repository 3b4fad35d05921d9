-- Numbers by their bits.
use Rattle.shared_lemmas.proofs.Common.{◌≡◌, ℕ, zero, suc, ◌+◌, ◌-◌, ◌*◌, ◌/◌, ◌%◌, ◌^◌, ◌<◌, ◌≤◌, List, length, get_or, sym, ap, ◌∙◌, refl, arith, inl, inr, bit_at, cases_lt, pow_pos, shr-shr, bit_at_cat_low, bit_at_cat_high, bit_at_lowest, bit_at-lt, bit_at-zero, same_from_bits_below}
use Rattle.shared_lemmas.proofs.Common.{get_or-map-range_with_len, length-map-range_with_len, fill_by_all, pow-suc}
use Rattle.shared_lemmas.proofs.Bits.{bit_times}
use Rattle.lane_kernels.specs.Block.{number_of_bits, list_of}

-- ---- bits of what the operators give
pub bit_at-shr : (n k v : ℕ) → bit_at (n / 2 ^ k) v ≡ bit_at n (k + v)
bit_at-shr n k v = ap (λ m. m % 2) (shr-shr n k v)

pub bit_at-shl_below : (n k v : ℕ) → v < k → bit_at (n * 2 ^ k) v ≡ 0
bit_at-shl_below n k v h = ap (λ m. bit_at m v) (let e : n * 2 ^ k ≡ n * 2 ^ k + 0 = omega arith in e) ∙ bit_at_cat_low n k 0 v h ∙ bit_at-zero v

pub bit_at-shl : (n k v : ℕ) → k ≤ v → bit_at (n * 2 ^ k) v ≡ bit_at n (v - k)
bit_at-shl n k v h = ap (λ m. bit_at m v) (let e : n * 2 ^ k ≡ n * 2 ^ k + 0 = omega arith in e) ∙ bit_at_cat_high n k 0 v (pow_pos k) h

-- ---- a number from its bits
pub number_below : (bit : ℕ → ℕ) (n : ℕ) → ((v : ℕ) → v < n → bit v < 2) → number_of_bits bit n < 2 ^ n
unfolding number_of_bits
number_below bit zero small = omega arith
number_below bit (suc n) small =
    omega (arith, number_below bit n (λ v h. small v (omega arith)), bit_times (bit n) (2 ^ n) (small n (omega arith)), pow-suc 2 n)

pub bit_at_number : (bit : ℕ → ℕ) (n : ℕ) → ((v : ℕ) → v < n → bit v < 2) → (v : ℕ) → v < n → bit_at (number_of_bits bit n) v ≡ bit v
unfolding number_of_bits
bit_at_number bit zero small v h = absurd (omega arith)
bit_at_number bit (suc n) small v h =
    let rest = λ (u : ℕ) (l : u < n). small u (omega arith) in
    elim (cases_lt v n) [
      | inl l ↦ bit_at_cat_low (bit n) n (number_of_bits bit n) v l ∙ bit_at_number bit n rest v l
      | inr g ↦
          let last : v ≡ n = omega arith in
          bit_at_cat_high (bit n) n (number_of_bits bit n) v (number_below bit n rest) g
          ∙ ap (bit_at (bit n)) (let e : v - n ≡ 0 = omega arith in e)
          ∙ bit_at_lowest (bit n)
          ∙ (let e : bit n % 2 ≡ bit n = omega (arith, small n (omega arith)) in e)
          ∙ ap bit (sym last)
    ]

-- the number with these bits is the only one
pub number_is : (bit : ℕ → ℕ) (n x : ℕ) → x < 2 ^ n → ((v : ℕ) → v < n → bit_at x v ≡ bit v) → x ≡ number_of_bits bit n
number_is bit n x below same =
    let small = λ (v : ℕ) (h : v < n). (let e : bit v < 2 = omega (arith, same v h, bit_at-lt x v) in e) in
    same_from_bits_below n x (number_of_bits bit n) below (number_below bit n small) (λ v h. same v h ∙ sym (bit_at_number bit n small v h))

pub same_numbers : (f g : ℕ → ℕ) (n : ℕ) → ((v : ℕ) → v < n → f v ≡ g v) → number_of_bits f n ≡ number_of_bits g n
unfolding number_of_bits
same_numbers f g zero same = refl
same_numbers f g (suc n) same =
    ap (λ b. b * 2 ^ n + number_of_bits f n) (same n (omega arith)) ∙ ap (λ m. g n * 2 ^ n + m) (same_numbers f g n (λ v h. same v (omega arith)))

-- ---- a list from a function
pub length-list_of : (f : ℕ → ℕ) (n : ℕ) → length (list_of f n) ≡ n
unfolding list_of
length-list_of f n = length-map-range_with_len f 0 n

pub get_or-list_of : (f : ℕ → ℕ) (n k : ℕ) → k < n → get_or (list_of f n) k 0 ≡ f k
unfolding list_of
get_or-list_of f n k h = get_or-map-range_with_len f 0 n k k 0 h (omega arith)

pub list_of_all : (f : ℕ → ℕ) (xs : List ℕ) (n : ℕ) → length xs ≡ n → ((k : ℕ) → k < n → get_or xs k 0 ≡ f k) → xs ≡ list_of f n
unfolding list_of
list_of_all f xs n long at = fill_by_all f xs n 0 long at
