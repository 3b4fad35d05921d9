-- Running sums, four lanes at a time.
use Rattle.shared_lemmas.proofs.Common.{◌≡◌, ℕ, zero, suc, ◌+◌, ◌%◌, ◌^◌, ◌<◌, ◌≤◌, List, [], ◌∷◌, ◌++◌, length, get_or, take, drop, replicate, sum, sym, ap, ◌∙◌, refl, arith, sum_by-cons, take_all, length-take-le, drop-drop, drop_at, length-chunk, put_chunk_is, take_more_put_chunk}
use Rattle.lane_kernels.specs.Gaps.{running}
use Rattle.shared_lemmas.proofs.Places.{same_four}
use Rattle.lane_kernels.proofs.Sums.{front_and_chunk, sum_with_chunk, sum_to_chunk_le}
use lib.Lanes.{zip2, pick_l, chunk, put_chunk}

abbrev pub plus : ℕ → ℕ → ℕ
plus a b = (a + b) % 2 ^ 32

-- what holds of four lanes
pub by_lanes : (P : List ℕ → Type 0) → ((a b c d : ℕ) → P (a ∷ b ∷ c ∷ d ∷ [])) → (xs : List ℕ) → length xs ≡ 4 → P xs
by_lanes P at [] e = absurd (omega arith)
by_lanes P at (a ∷ []) e = absurd (omega arith)
by_lanes P at (a ∷ b ∷ []) e = absurd (omega arith)
by_lanes P at (a ∷ b ∷ c ∷ []) e = absurd (omega arith)
by_lanes P at (a ∷ b ∷ c ∷ d ∷ []) e = at a b c d
by_lanes P at (a ∷ b ∷ c ∷ d ∷ x ∷ xs) e = absurd (omega arith)

abbrev pub sums_of : List ℕ → List ℕ
sums_of xs =
    let pairs = zip2 plus xs (pick_l 0 (xs ++ replicate 4 0) (4 ∷ 0 ∷ 1 ∷ 2 ∷ [])) in
    zip2 plus (zip2 plus pairs (pick_l 0 (pairs ++ replicate 4 0) (4 ∷ 4 ∷ 0 ∷ 1 ∷ []))) (0 ∷ 1 ∷ 2 ∷ 3 ∷ [])

pub sums_of_is : (xs : List ℕ) → length xs ≡ 4 → sum xs + 3 < 2 ^ 32 → sums_of xs ≡ running 0 xs
sums_of_is = by_lanes (λ xs. sum xs + 3 < 2 ^ 32 → sums_of xs ≡ running 0 xs)
    (λ a b c d h. same_four (omega arith) (omega arith) (omega arith) (omega arith))

-- from a least number on
pub raised : (m : ℕ) (xs : List ℕ) → length xs ≡ 4 → m + sum xs + 3 < 2 ^ 32 → zip2 plus (running 0 xs) (replicate 4 m) ≡ running m xs
raised m = by_lanes (λ xs. m + sum xs + 3 < 2 ^ 32 → zip2 plus (running 0 xs) (replicate 4 m) ≡ running m xs)
    (λ a b c d h. same_four (omega arith) (omega arith) (omega arith) (omega arith))

-- the least number after four
pub raised_least : (m : ℕ) (xs : List ℕ) → length xs ≡ 4 → m + sum xs + 4 < 2 ^ 32
    → zip2 plus (replicate 4 m) (let ys : List ℕ = zip2 plus (running 0 xs) (replicate 4 1) in pick_l 0 (ys ++ ys) (3 ∷ 3 ∷ 3 ∷ 3 ∷ [])) ≡ replicate 4 (m + sum xs + 4)
raised_least m = by_lanes (λ xs. m + sum xs + 4 < 2 ^ 32
    → zip2 plus (replicate 4 m) (let ys : List ℕ = zip2 plus (running 0 xs) (replicate 4 1) in pick_l 0 (ys ++ ys) (3 ∷ 3 ∷ 3 ∷ 3 ∷ [])) ≡ replicate 4 (m + sum xs + 4))
    (λ a b c d h. same_four (omega arith) (omega arith) (omega arith) (omega arith))

pub running-append : (m : ℕ) (xs ys : List ℕ) → running m (xs ++ ys) ≡ running m xs ++ running (m + sum xs + length xs) ys
running-append m [] ys = ap (λ n. running n ys) (omega arith)
running-append m (x ∷ xs) ys =
    ap (λ (zs : List ℕ). (m + x) ∷ zs) (running-append (m + x + 1) xs ys
    ∙ ap (λ n. running (m + x + 1) xs ++ running n ys) (omega (arith, sum_by-cons (λ y. y) x xs)))

pub length-running : (m : ℕ) (xs : List ℕ) → length (running m xs) ≡ length xs
length-running m [] = refl
length-running m (x ∷ xs) = ap suc (length-running (m + x + 1) xs)

-- each number by its place
pub get_or-running : (m : ℕ) (xs : List ℕ) (i : ℕ) → i < length xs → get_or (running m xs) i 0 ≡ m + sum (take (i + 1) xs) + i
get_or-running m [] i h = absurd (omega arith)
get_or-running m (x ∷ xs) zero h = omega arith
get_or-running m (x ∷ xs) (suc i) h =
    get_or-running (m + x + 1) xs i (omega arith) ∙ omega (arith, sum_by-cons (λ y. y) x (take (i + 1) xs), ap (λ n. sum (take n (x ∷ xs))) (let e : suc i + 1 ≡ suc (i + 1) = omega arith in e))

-- ---- a row of the loop
module _ (before : ℕ) (old now : List ℕ) (i : ℕ) (long : length old ≡ 128) (same : length now ≡ 128) (within : i + 4 ≤ 128)
    (room : before + sum old + 127 < 2 ^ 26)
    (done : take i now ≡ running before (take i old)) (rest : drop i now ≡ drop i old) where
  abbrev lanes : List ℕ
  lanes = chunk i 4 old

  long_lanes : length lanes ≡ 4
  long_lanes = length-chunk i 4 old (omega arith)

  abbrev least : ℕ
  least = before + sum (take i old) + i

  pub same_lanes_left : (loaded : List ℕ) → loaded ≡ chunk i 4 now → loaded ≡ lanes
  same_lanes_left loaded is = is ∙ ap (take 4) rest

  pub lanes_room : least + sum lanes + 4 < 2 ^ 32
  lanes_room = omega (arith, sum_to_chunk_le old i)

  module _ (wide : List ℕ) (starts : wide ≡ replicate 4 least) (numbers : List ℕ) (are : numbers ≡ running 0 lanes) where
    written : zip2 plus numbers wide ≡ running least lanes
    written = ap (λ (w : List ℕ). zip2 plus numbers w) starts ∙ ap (λ (w : List ℕ). zip2 plus w (replicate 4 least)) are ∙ raised least lanes long_lanes (omega (arith, lanes_room))

    pub least_more : zip2 plus wide (let ys : List ℕ = zip2 plus numbers (replicate 4 1) in pick_l 0 (ys ++ ys) (3 ∷ 3 ∷ 3 ∷ 3 ∷ [])) ≡ replicate 4 (before + sum (take (i + 4) old) + (i + 4))
    least_more =
        ap (λ (w : List ℕ). zip2 plus w (let ys : List ℕ = zip2 plus numbers (replicate 4 1) in pick_l 0 (ys ++ ys) (3 ∷ 3 ∷ 3 ∷ 3 ∷ []))) starts
        ∙ ap (λ (n : List ℕ). zip2 plus (replicate 4 least) (let ys : List ℕ = zip2 plus n (replicate 4 1) in pick_l 0 (ys ++ ys) (3 ∷ 3 ∷ 3 ∷ 3 ∷ []))) are
        ∙ raised_least least lanes long_lanes lanes_room
        ∙ ap (λ n. replicate 4 n) (omega (arith, sum_with_chunk old i))

    pub done_more : take (i + 4) (put_chunk i now (zip2 plus numbers wide)) ≡ running before (take (i + 4) old)
    done_more =
        ap (λ (w : List ℕ). take (i + 4) (put_chunk i now w)) written
        ∙ take_more_put_chunk i now (running least lanes) (i + 4) (omega (arith, length-running least lanes, long_lanes)) (omega arith)
        ∙ ap (λ (w : List ℕ). w ++ running least lanes) done
        ∙ ap (λ n. running before (take i old) ++ running n lanes) (omega (arith, length-take-le i old (omega arith)))
        ∙ sym (running-append before (take i old) lanes)
        ∙ ap (running before) (sym (front_and_chunk old i))

    pub rest_more : drop (i + 4) (put_chunk i now (zip2 plus numbers wide)) ≡ drop (i + 4) old
    rest_more =
        let ys : List ℕ = zip2 plus numbers wide in
        let four : length ys ≡ 4 = ap length written ∙ length-running least lanes ∙ long_lanes in
        let S : List ℕ = drop (length ys) (drop i now) in
        sym (drop-drop 4 i (put_chunk i now ys))
        ∙ ap (λ (w : List ℕ). drop 4 (drop i w)) (put_chunk_is i now ys (omega arith))
        ∙ ap (drop 4) (drop_at (take i now) (ys ++ S) i (length-take-le i now (omega arith)))
        ∙ drop_at ys S 4 four
        ∙ ap (λ n. drop n (drop i now)) four
        ∙ ap (drop 4) rest
        ∙ drop-drop 4 i old

pub all_done : (before : ℕ) (old now : List ℕ) (i : ℕ) → length old ≡ 128 → length now ≡ 128 → 128 ≤ i → take i now ≡ running before (take i old) → now ≡ running before old
all_done before old now i long same past done = sym (take_all i now (omega arith)) ∙ done ∙ ap (running before) (take_all i old (omega arith))
