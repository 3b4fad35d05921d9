-- Adding to four neighbouring slots, lane by lane.
use Rattle.shared_lemmas.proofs.Common.{◌≡◌, ℕ, zero, suc, ◌+◌, ◌-◌, ◌*◌, ◌%◌, ◌^◌, ◌<◌, ◌≤◌, Bool, true, false, not, cond, ◌&&◌, eqb, leb, List, [], ◌∷◌, length, map, get_or, replicate, count_by, bit_and, sym, ap, ◌∙◌, refl, arith, inl, inr, ◌⊎◌, bit_at, range_with_len, cases_lt, le-leb, lt-leb}
use Rattle.shared_lemmas.proofs.Common.{ne_eqb, and_pow, bit_at-lt, length-chunk, get_or-chunk, get_or-put_chunk_below, get_or-put_chunk_at, get_or-put_chunk_above}
use Rattle.shared_lemmas.proofs.Places.{same_four}
use Rattle.lane_kernels.specs.Adding.{is_near}
use Rattle.lane_kernels.specs.Private.Lanes.{is_marked, weight_at}
use Rattle.lane_kernels.proofs.Running.{plus, by_lanes}
use lib.Lanes.{zip2, sel_l, sum_l, top, chunk, put_chunk}

-- ---- four lanes by their places
abbrev pub four : (ℕ → ℕ) → List ℕ
four f = f 0 ∷ f 1 ∷ f 2 ∷ f 3 ∷ []

-- what holds of the four places
pub by_places : (P : ℕ → Type 0) → P 0 → P 1 → P 2 → P 3 → (k : ℕ) → k < 4 → P k
by_places P a b c d zero h = a
by_places P a b c d (suc zero) h = b
by_places P a b c d (suc (suc zero)) h = c
by_places P a b c d (suc (suc (suc zero))) h = d
by_places P a b c d (suc (suc (suc (suc k)))) h = absurd (omega arith)

get_or-four : (f : ℕ → ℕ) (k : ℕ) → k < 4 → get_or (four f) k 0 ≡ f k
get_or-four f = by_places (λ k. get_or (four f) k 0 ≡ f k) refl refl refl refl

as_four : (xs : List ℕ) → length xs ≡ 4 → xs ≡ four (λ k. get_or xs k 0)
as_four = by_lanes (λ xs. xs ≡ four (λ k. get_or xs k 0)) (λ a b c d. refl)

chunk_four : (i : ℕ) (xs : List ℕ) → i + 4 ≤ length xs → chunk i 4 xs ≡ four (λ k. get_or xs (i + k) 0)
chunk_four i xs within =
    as_four (chunk i 4 xs) (length-chunk i 4 xs within)
    ∙ same_four (get_or-chunk i 4 xs 0 0 (omega arith)) (get_or-chunk i 4 xs 1 0 (omega arith)) (get_or-chunk i 4 xs 2 0 (omega arith)) (get_or-chunk i 4 xs 3 0 (omega arith))

-- ---- the bits of a byte as marks
mark_is : (x b p : ℕ) → b < 2 → 0 < p → x ≡ b * p → not (eqb x 0) ≡ eqb b 1
mark_is x zero p small some is = ap (λ n. not (eqb n 0)) (let e : x ≡ 0 = omega arith in e)
mark_is x (suc zero) p small some is = ap not (ne_eqb x 0 (λ e. omega arith))
mark_is x (suc (suc b)) p small some is = absurd (omega arith)

-- one bit of a byte as a mark
bit_marked : (byte n : ℕ) → n ≡ byte → (k p : ℕ) → 2 ^ k ≡ p → 0 < p → not (eqb (bit_and n p) 0) ≡ eqb (bit_at byte k) 1
bit_marked byte n is k p power some =
    mark_is (bit_and n p) (bit_at n k) p (bit_at-lt n k) some (ap (bit_and n) (sym power) ∙ and_pow n k ∙ ap (λ q. bit_at n k * q) power) ∙ ap (λ m. eqb (bit_at m k) 1) is

pub marks_low : (byte n : ℕ) → n ≡ byte → (k : ℕ) → k < 4 → is_marked (bit_and n 1 ∷ bit_and n 2 ∷ bit_and n 4 ∷ bit_and n 8 ∷ []) k ≡ eqb (bit_at byte k) 1
marks_low byte n is =
    let at = bit_marked byte n is in
    by_places (λ k. is_marked (bit_and n 1 ∷ bit_and n 2 ∷ bit_and n 4 ∷ bit_and n 8 ∷ []) k ≡ eqb (bit_at byte k) 1)
    (at 0 1 refl (omega arith)) (at 1 2 refl (omega arith)) (at 2 4 refl (omega arith)) (at 3 8 refl (omega arith))

pub marks_high : (byte n : ℕ) → n ≡ byte → (k : ℕ) → k < 4 → is_marked (bit_and n 16 ∷ bit_and n 32 ∷ bit_and n 64 ∷ bit_and n 128 ∷ []) k ≡ eqb (bit_at byte (4 + k)) 1
marks_high byte n is =
    let at = bit_marked byte n is in
    by_places (λ k. is_marked (bit_and n 16 ∷ bit_and n 32 ∷ bit_and n 64 ∷ bit_and n 128 ∷ []) k ≡ eqb (bit_at byte (4 + k)) 1)
    (at 4 16 refl (omega arith)) (at 5 32 refl (omega arith)) (at 6 64 refl (omega arith)) (at 7 128 refl (omega arith))

-- ---- one lane, where b tells that it isn't marked
added_lane : (b : Bool) (a w : ℕ) → a + cond (not b) w 0 < 2 ^ 32 → (a + cond (top 31 (cond b 4294967295 0)) 0 w) % 2 ^ 32 ≡ a + cond (not b) w 0
added_lane true a w h = omega arith
added_lane false a w h = omega arith

counted_lane : (b t : Bool) (z : ℕ) → z + 1 < 2 ^ 32
    → (z + cond (top 31 (cond b 4294967295 0)) 0 (cond (top 31 (cond t 4294967295 0)) 1 0)) % 2 ^ 32 ≡ z + cond (not b && t) 1 0
counted_lane true true z h = omega arith
counted_lane true false z h = omega arith
counted_lane false true z h = omega arith
counted_lane false false z h = omega arith

-- the difference modulo 2 ^ 32 is at most w just where n is near, for n isn't below w
near_is : (n w from : ℕ) → w ≤ n → n < 2 ^ 32 → from < 2 ^ 32 → leb ((n + (2 ^ 32 - from)) % 2 ^ 32) w ≡ is_near w from n
near_is n w from most small start =
    elim (cases_lt n from) [
      | inl below ↦ lt-leb ((n + (2 ^ 32 - from)) % 2 ^ 32) w (omega arith) ∙ sym (ap (λ t. t && leb n (from + w)) (lt-leb from n below))
      | inr above ↦
          let lower : is_near w from n ≡ leb n (from + w) = ap (λ t. t && leb n (from + w)) (le-leb from n above) in
          elim (cases_lt (from + w) n) [
            | inl past ↦ lt-leb ((n + (2 ^ 32 - from)) % 2 ^ 32) w (omega arith) ∙ sym (lower ∙ lt-leb n (from + w) past)
            | inr within ↦ le-leb ((n + (2 ^ 32 - from)) % 2 ^ 32) w (omega arith) ∙ sym (lower ∙ le-leb n (from + w) within)
          ]
    ]

near_marked : (m : Bool) (n s w from : ℕ) → n ≡ s + cond m w 0 → n < 2 ^ 32 → from < 2 ^ 32 → (m && leb ((n + (2 ^ 32 - from)) % 2 ^ 32) w) ≡ (m && is_near w from n)
near_marked true n s w from is small start = near_is n w from (omega arith) small start
near_marked false n s w from is small start = refl

-- ---- four lanes
abbrev unmarked : List ℕ → List Bool
unmarked marks = map (top 31) (zip2 (λ a b. cond (eqb a b) 4294967295 0) marks (replicate 4 0))

abbrev pub added_lanes : ℕ → List ℕ → List ℕ → List ℕ
added_lanes w marks old = zip2 plus old (sel_l (unmarked marks) (replicate 4 0) (replicate 4 w))

added_lanes_are : (w : ℕ) (slot : ℕ → ℕ) (marks old : List ℕ) → length marks ≡ 4 → old ≡ four slot → ((k : ℕ) → k < 4 → slot k + weight_at w marks k < 2 ^ 32)
    → added_lanes w marks old ≡ four (λ k. slot k + weight_at w marks k)
added_lanes_are w slot marks old long is fits =
    ap (added_lanes w marks) is
    ∙ by_lanes (λ ms. ((k : ℕ) → k < 4 → slot k + weight_at w ms k < 2 ^ 32) → added_lanes w ms (four slot) ≡ four (λ k. slot k + weight_at w ms k))
    (λ a b c d h. same_four (added_lane (eqb a 0) (slot 0) w (h 0 (omega arith))) (added_lane (eqb b 0) (slot 1) w (h 1 (omega arith)))
    (added_lane (eqb c 0) (slot 2) w (h 2 (omega arith))) (added_lane (eqb d 0) (slot 3) w (h 3 (omega arith)))) marks long fits

-- the counts after one more where the lane is marked and the test's lane is set
abbrev pub counted_lanes : List ℕ → List ℕ → List ℕ → List ℕ
counted_lanes marks tests counts = zip2 plus counts (sel_l (unmarked marks) (replicate 4 0) (sel_l (map (top 31) tests) (replicate 4 1) (replicate 4 0)))

abbrev pub marked_count : List ℕ → (ℕ → Bool) → ℕ
marked_count marks test = count_by (λ k. is_marked marks k && test k) (range_with_len 0 4)

sum_counted : (test : ℕ → Bool) (marks tests counts : List ℕ) → length marks ≡ 4 → length counts ≡ 4 → tests ≡ four (λ k. cond (test k) 4294967295 0) → sum_l counts + 4 < 2 ^ 32
    → sum_l (counted_lanes marks tests counts) ≡ sum_l counts + marked_count marks test
sum_counted test marks tests counts many long is room =
    ap (λ (ts : List ℕ). sum_l (counted_lanes marks ts counts)) is
    ∙ by_lanes (λ ms. (zs : List ℕ) → length zs ≡ 4 → sum_l zs + 4 < 2 ^ 32 → sum_l (counted_lanes ms (four (λ k. cond (test k) 4294967295 0)) zs) ≡ sum_l zs + marked_count ms test)
    (λ a b c d. by_lanes (λ zs. sum_l zs + 4 < 2 ^ 32 → sum_l (counted_lanes (a ∷ b ∷ c ∷ d ∷ []) (four (λ k. cond (test k) 4294967295 0)) zs) ≡ sum_l zs + marked_count (a ∷ b ∷ c ∷ d ∷ []) test)
    (λ e f g h small. omega (
      arith,
      counted_lane (eqb a 0) (test 0) e (omega arith),
      counted_lane (eqb b 0) (test 1) f (omega arith),
      counted_lane (eqb c 0) (test 2) g (omega arith),
      counted_lane (eqb d 0) (test 3) h (omega arith),
    ))) marks many counts long room

length_counted : (tests : ℕ → ℕ) (marks counts : List ℕ) → length marks ≡ 4 → length counts ≡ 4 → length (counted_lanes marks (four tests) counts) ≡ 4
length_counted tests marks counts many long =
    by_lanes (λ ms. (zs : List ℕ) → length zs ≡ 4 → length (counted_lanes ms (four tests) zs) ≡ 4)
    (λ a b c d. by_lanes (λ zs. length (counted_lanes (a ∷ b ∷ c ∷ d ∷ []) (four tests) zs) ≡ 4) (λ e f g h. refl)) marks many counts long

-- ---- the four slots from a place on
module _ (w place : ℕ) (slots marks old : List ℕ) (many : length marks ≡ 4) (within : place + 4 ≤ length slots) (loaded : old ≡ chunk place 4 slots)
    (fits : (k : ℕ) → k < 4 → get_or slots (place + k) 0 + weight_at w marks k < 2 ^ 32) where
  new_are : added_lanes w marks old ≡ four (λ k. get_or slots (place + k) 0 + weight_at w marks k)
  new_are = added_lanes_are w (λ k. get_or slots (place + k) 0) marks old many (loaded ∙ chunk_four place slots within) fits

  pub new_long : length (added_lanes w marks old) ≡ 4
  new_long = ap length new_are

  -- the masks of the test
  abbrev near_lanes : ℕ → List ℕ → List ℕ
  near_lanes from xs = zip2 (λ a b. cond (leb a b) 4294967295 0) (zip2 (λ a b. (a + (2 ^ 32 - b)) % 2 ^ 32) xs (replicate 4 from)) (replicate 4 w)

  pub nears_long : (from : ℕ) (counts : List ℕ) → length counts ≡ 4 → length (counted_lanes marks (near_lanes from (added_lanes w marks old)) counts) ≡ 4
  nears_long from counts long =
      ap (λ (xs : List ℕ). length (counted_lanes marks (near_lanes from xs) counts)) new_are
      ∙ length_counted (λ k. cond (leb ((get_or slots (place + k) 0 + weight_at w marks k + (2 ^ 32 - from)) % 2 ^ 32) w) 4294967295 0) marks counts many long

  module _ (now : List ℕ) (stored : now ≡ put_chunk place slots (added_lanes w marks old)) where
    pub new_here : (k : ℕ) → k < 4 → get_or now (place + k) 0 ≡ get_or slots (place + k) 0 + weight_at w marks k
    new_here k h =
        ap (λ (xs : List ℕ). get_or xs (place + k) 0) stored
        ∙ get_or-put_chunk_at place slots (added_lanes w marks old) k 0 (omega (arith, new_long)) (omega (arith, new_long))
        ∙ ap (λ (xs : List ℕ). get_or xs k 0) new_are
        ∙ get_or-four (λ j. get_or slots (place + j) 0 + weight_at w marks j) k h

    pub new_others : (i : ℕ) → (i < place) ⊎ (place + 4 ≤ i) → get_or now i 0 ≡ get_or slots i 0
    new_others i away =
        ap (λ (xs : List ℕ). get_or xs i 0) stored
        ∙ elim away [
          | inl below ↦ get_or-put_chunk_below place slots (added_lanes w marks old) i 0 below
          | inr above ↦ get_or-put_chunk_above place slots (added_lanes w marks old) i 0 (omega (arith, new_long))
        ]

    pub nears_counted : (from : ℕ) → from < 2 ^ 32 → (counts : List ℕ) → length counts ≡ 4 → sum_l counts + 4 < 2 ^ 32
        → sum_l (counted_lanes marks (near_lanes from (added_lanes w marks old)) counts)
        ≡ sum_l counts + marked_count marks (λ k. is_near w from (get_or now (place + k) 0))
    nears_counted from start counts long room =
        let next = λ (k : ℕ). get_or now (place + k) 0 in
        let are : added_lanes w marks old ≡ four next = new_are ∙ sym (same_four (new_here 0 (omega arith)) (new_here 1 (omega arith)) (new_here 2 (omega arith)) (new_here 3 (omega arith))) in
        let tests = λ (k : ℕ). leb ((next k + (2 ^ 32 - from)) % 2 ^ 32) w in
        let lane : (k : ℕ) → k < 4 → (is_marked marks k && tests k) ≡ (is_marked marks k && is_near w from (next k)) =
        (λ k h. near_marked (is_marked marks k) (next k) (get_or slots (place + k) 0) w from (new_here k h) (omega (arith, new_here k h, fits k h)) start) in
        sum_counted tests marks _ counts many long
        (ap (near_lanes from) are) room
        ∙ ap (λ n. sum_l counts + n) (omega (
          arith,
          ap {B = ℕ} (λ b. cond b 1 0) (lane 0 (omega arith)),
          ap {B = ℕ} (λ b. cond b 1 0) (lane 1 (omega arith)),
          ap {B = ℕ} (λ b. cond b 1 0) (lane 2 (omega arith)),
          ap {B = ℕ} (λ b. cond b 1 0) (lane 3 (omega arith)),
        ))
