-- Adding to the slots of a bitmap, four at a time.
use Rattle.shared_lemmas.proofs.Common.{◌≡◌, ℕ, zero, suc, ◌+◌, ◌-◌, ◌*◌, ◌/◌, ◌%◌, ◌^◌, ◌<◌, ◌≤◌, Bool, true, false, not, cond, ◌&&◌, ◌||◌, eqb, List, [], ◌∷◌, ◌++◌, length, get_or, count_by, sym, ap, ◌∙◌, refl, arith, inl, inr, ◌⊎◌, Fits, w32, bit_at, list_any, range_with_len, cases_lt, ne_eqb}
use Rattle.shared_lemmas.proofs.Common.{fill_by_all, length-range_with_len, sum_by-cons, sum_by-append, count_by-le-length, bit_at-lt, sum_fits, fold-sum}
use Rattle.lane_kernels.specs.Adding.{added_where, is_near, near_where}
use Rattle.lane_kernels.specs.Bitmap.{bit_of}
use Rattle.lane_kernels.specs.Private.Lanes.{is_marked, weight_at}
use Rattle.lane_kernels.proofs.AddedLanes.{marked_count}
use lib.Lanes.{sum_l, fold_l, Steps}
use Rattle.lane_kernels.proofs.SetBits.{range-append}

-- ---- counts over neighbouring numbers
count_cons : (p : ℕ → Bool) (a n : ℕ) → count_by p (range_with_len a (suc n)) ≡ cond (p a) 1 0 + count_by p (range_with_len (a + 1) n)
count_cons p a n = sum_by-cons (λ x. cond (p x) 1 0) a (range_with_len (a + 1) n)

-- two tests that tell the same, each at its own numbers
count_same : (p q : ℕ → Bool) (a b n : ℕ) → ((k i j : ℕ) → k < n → i ≡ a + k → j ≡ b + k → p i ≡ q j) → count_by p (range_with_len a n) ≡ count_by q (range_with_len b n)
count_same p q a b zero same = refl
count_same p q a b (suc n) same =
    count_cons p a n
    ∙ ap (λ t. cond t 1 0 + count_by p (range_with_len (a + 1) n)) (same 0 a b (omega arith) (omega arith) (omega arith))
    ∙ ap (λ m. cond (q b) 1 0 + m) (count_same p q (a + 1) (b + 1) n (λ k i j h e f. same (suc k) i j (omega arith) (omega arith) (omega arith)))
    ∙ sym (count_cons q b n)

count_more : (p : ℕ → Bool) (n m : ℕ) → count_by p (range_with_len 0 (n + m)) ≡ count_by p (range_with_len 0 n) + count_by p (range_with_len n m)
count_more p n m =
    ap (count_by p) (range-append 0 n m ∙ ap (λ b. range_with_len 0 n ++ range_with_len b m) (let e : 0 + n ≡ n = omega arith in e))
    ∙ sum_by-append (λ x. cond (p x) 1 0) (range_with_len 0 n) (range_with_len n m)

count_most : (p : ℕ → Bool) (n : ℕ) → count_by p (range_with_len 0 n) ≤ n
count_most p n = omega (arith, count_by-le-length p (range_with_len 0 n), length-range_with_len 0 n)

-- one passes just where the count isn't 0
some_or : (b r : Bool) (n m : ℕ) → r ≡ not (eqb n 0) → m ≡ cond b 1 0 + n → (b || r) ≡ not (eqb m 0)
some_or true r n m later is = sym (ap not (ne_eqb m 0 (λ e. omega arith)))
some_or false r n m later is = later ∙ ap (λ k. not (eqb k 0)) (let e : n ≡ m = omega arith in e)

any_is_count : (p : ℕ → Bool) (xs : List ℕ) → list_any p xs ≡ not (eqb (count_by p xs) 0)
any_is_count p [] = refl
any_is_count p (x ∷ xs) = some_or (p x) (list_any p xs) (count_by p xs) (count_by p (x ∷ xs)) (any_is_count p xs) (sum_by-cons (λ y. cond (p y) 1 0) x xs)

-- ---- the slots whose bits are set
abbrev pub gets_near : ℕ → ℕ → List ℕ → List ℕ → ℕ → Bool
gets_near w from bits slots i = eqb (bit_of bits i) 1 && is_near w from (get_or slots i 0 + w * bit_of bits i)

-- w was added to those below n, and those near now were counted
pub record AddedBelow (w from : ℕ) (bits slots now nears : List ℕ) (n : ℕ) : Type 0 where
  pub long : length now ≡ length slots
  pub lanes : length nears ≡ 4
  pub done : (i : ℕ) → i < n → get_or now i 0 ≡ get_or slots i 0 + w * bit_of bits i
  pub rest : (i : ℕ) → n ≤ i → get_or now i 0 ≡ get_or slots i 0
  pub nears_are : sum_l nears ≡ count_by (gets_near w from bits slots) (range_with_len 0 n)

cond_bit : (w b : ℕ) → b < 2 → cond (eqb b 1) w 0 ≡ w * b
cond_bit w zero h = omega arith
cond_bit w (suc zero) h = omega arith
cond_bit w (suc (suc b)) h = absurd (omega arith)

module _ (w from : ℕ) (bits slots now nears : List ℕ) (n : ℕ) (was : AddedBelow w from bits slots now nears n)
    (marks : List ℕ) (are : (k : ℕ) → k < 4 → is_marked marks k ≡ eqb (bit_of bits (n + k)) 1) where
  weight_is : (k : ℕ) → k < 4 → weight_at w marks k ≡ w * bit_of bits (n + k)
  weight_is k h = ap (λ b. cond b w 0) (are k h) ∙ cond_bit w (bit_of bits (n + k)) (bit_at-lt (get_or bits ((n + k) / 8) 0) ((n + k) % 8))

  pub fits_here : n + 4 ≤ length slots → ((i : ℕ) → i < length slots → get_or slots i 0 + w * bit_of bits i < 2 ^ 32)
      → (k : ℕ) → k < 4 → get_or now (n + k) 0 + weight_at w marks k < 2 ^ 32
  fits_here within fits k h = omega (arith, was.rest (n + k) (omega arith), weight_is k h, fits (n + k) (omega arith))

  pub nears_room : n ≤ 128 → sum_l nears + 4 < 2 ^ 32
  nears_room few = omega (arith, was.nears_are, count_most (gets_near w from bits slots) n)

  module _ (later : List ℕ) (here : (k : ℕ) → k < 4 → get_or later (n + k) 0 ≡ get_or now (n + k) 0 + weight_at w marks k) where
    value_is : (i : ℕ) → n ≤ i → i < n + 4 → get_or later i 0 ≡ get_or slots i 0 + w * bit_of bits i
    value_is i low high =
        let k : ℕ = i - n in
        let place : n + k ≡ i = omega arith in
        let at : get_or later (n + k) 0 ≡ get_or slots (n + k) 0 + w * bit_of bits (n + k) = omega (arith, here k (omega arith), was.rest (n + k) (omega arith), weight_is k (omega arith)) in
        sym (ap (λ j. get_or later j 0) place) ∙ at ∙ ap (λ j. get_or slots j 0 + w * bit_of bits j) place

    pub four_more : length later ≡ length now → ((i : ℕ) → (i < n) ⊎ (n + 4 ≤ i) → get_or later i 0 ≡ get_or now i 0)
        → (ns : List ℕ) → length ns ≡ 4
        → sum_l ns ≡ sum_l nears + marked_count marks (λ k. is_near w from (get_or later (n + k) 0))
        → AddedBelow w from bits slots later ns (n + 4)
    four_more same others ns lanes nears_now = record {
      long = same ∙ was.long;
      lanes = lanes;
      done = λ i h. elim (cases_lt i n) [ inl below ↦ others i (inl below) ∙ was.done i below | inr above ↦ value_is i above h ];
      rest = λ i h. others i (inr h) ∙ was.rest i (omega arith);
      nears_are =
          nears_now
          ∙ ap (λ m. m + marked_count marks (λ k. is_near w from (get_or later (n + k) 0))) was.nears_are
          ∙ ap (λ m. count_by (gets_near w from bits slots) (range_with_len 0 n) + m)
          (count_same (λ k. is_marked marks k && is_near w from (get_or later (n + k) 0)) (gets_near w from bits slots) 0 n 4 (λ k i j h e f.
          ap (λ l. is_marked marks l && is_near w from (get_or later (n + l) 0)) (let a : i ≡ k = omega arith in a)
          ∙ ap (λ t. t && is_near w from (get_or later (n + k) 0)) (are k h)
          ∙ ap (λ x. eqb (bit_of bits (n + k)) 1 && is_near w from x) (value_is (n + k) (omega arith) (omega arith))
          ∙ ap (gets_near w from bits slots) (sym f)))
          ∙ sym (count_more (gets_near w from bits slots) n 4);
    }

-- ---- the marks of a byte
bit_in_byte : (bits : List ℕ) (at j i : ℕ) → j < 8 → i ≡ 8 * at + j → bit_of bits i ≡ bit_at (get_or bits at 0) j
bit_in_byte bits at j i small is =
    ap (λ q. bit_at (get_or bits q 0) (i % 8)) (let e : i / 8 ≡ at = omega arith in e) ∙ ap (bit_at (get_or bits at 0)) (let e : i % 8 ≡ j = omega arith in e)

pub low_marks : (bits marks : List ℕ) (at : ℕ) → ((k : ℕ) → k < 4 → is_marked marks k ≡ eqb (bit_at (get_or bits at 0) k) 1)
    → (k : ℕ) → k < 4 → is_marked marks k ≡ eqb (bit_of bits (8 * at + k)) 1
low_marks bits marks at are k h = are k h ∙ ap (λ b. eqb b 1) (sym (bit_in_byte bits at k (8 * at + k) (omega arith) refl))

pub high_marks : (bits marks : List ℕ) (at : ℕ) → ((k : ℕ) → k < 4 → is_marked marks k ≡ eqb (bit_at (get_or bits at 0) (4 + k)) 1)
    → (k : ℕ) → k < 4 → is_marked marks k ≡ eqb (bit_of bits (8 * at + 4 + k)) 1
high_marks bits marks at are k h = are k h ∙ ap (λ b. eqb b 1) (sym (bit_in_byte bits at (4 + k) (8 * at + 4 + k) (omega arith) (omega arith)))

-- ---- all slots
module _ (w from : ℕ) (bits slots now nears : List ℕ) (n : ℕ) (was : AddedBelow w from bits slots now nears n) (all : n ≡ length slots) (few : n ≤ 128) where
  pub all_added : now ≡ added_where w bits slots
  all_added = fill_by_all (λ i. get_or slots i 0 + w * bit_of bits i) now (length slots) 0 was.long (λ k h. was.done k (omega arith))

  pub nears_fit : Steps (λ s x. Fits w32 (s + x)) (λ s x. s + x) 0 nears
  nears_fit = sum_fits w32 0 nears (omega (arith, was.nears_are, count_most (gets_near w from bits slots) n))

  pub all_near : not (eqb (fold_l (λ s x. s + x) 0 nears) 0) ≡ near_where w from bits now
  all_near =
      ap (λ m. not (eqb m 0)) (
      (let e : fold_l (λ s x. s + x) 0 nears ≡ sum_l nears = fold-sum 0 nears ∙ omega arith in e)
      ∙ was.nears_are
      ∙ ap (λ m. count_by (gets_near w from bits slots) (range_with_len 0 m)) (all ∙ sym was.long)
      ∙ count_same (gets_near w from bits slots) (λ i. eqb (bit_of bits i) 1 && is_near w from (get_or now i 0)) 0 0 (length now) (λ k i j h e f.
      ap (gets_near w from bits slots) (let a : i ≡ j = omega arith in a)
      ∙ ap (λ x. eqb (bit_of bits j) 1 && is_near w from x) (sym (was.done j (omega (arith, was.long, all))))))
      ∙ sym (any_is_count (λ i. eqb (bit_of bits i) 1 && is_near w from (get_or now i 0)) (range_with_len 0 (length now)))
