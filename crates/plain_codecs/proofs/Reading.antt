-- Reading gaps in parts.
use Rattle.shared_lemmas.proofs.Common.{◌≡◌, ℕ, zero, suc, ◌+◌, ◌-◌, ◌<◌, ◌≤◌, ◌==◌, Bool, true, false, List, [], ◌∷◌, ◌++◌, length, take, drop, sum, All, Result, Ok, Err, refl, sym, ap, ◌∙◌, subst, append_assoc, arith, nat_lt, nat_tests, length-drop, drop-drop, sum_by-cons}
use Rattle.jass_base.specs.declared.payload_fault.PayloadFault.{PayloadFault}
use Rattle.jass_base.specs.declared.payload_fault.PayloadFault.TheVariants.{Longer, DocRange}
use Rattle.jass_base.specs.Gaps.{◌>>=◌, gap_in, read_gaps}
use Rattle.plain_codecs.specs.Private.Runs.{Continues}

-- of so many gaps that are left, the first ones have this sum, number and place behind them
pub record ReadsOn (bytes : List ℕ) (at left sum count next : ℕ) : Type 0 where
  pub fits : (d least : ℕ) → least + sum + count ≤ d → Continues (read_gaps d least left (drop at bytes)) (read_gaps d (least + sum + count) (left - count) (drop next bytes))
  pub over : (d least : ℕ) → least ≤ d → d < least + sum + count → read_gaps d least left (drop at bytes) ≡ Err DocRange

abbrev pub before : List ℕ → Result (List ℕ) PayloadFault → Result (List ℕ) PayloadFault
before front read = read >>= λ docs. Ok (front ++ docs)

pub before_none : (read : Result (List ℕ) PayloadFault) → read ≡ before [] read
before_none (Ok docs) = refl
before_none (Err fault) = refl

pub before_before : (first second : List ℕ) (read : Result (List ℕ) PayloadFault) → before first (before second read) ≡ before (first ++ second) read
before_before first second (Ok docs) = ap (λ (xs : List ℕ). Ok xs) (sym (append_assoc first second docs))
before_before first second (Err fault) = refl

pub itself : (read : Result (List ℕ) PayloadFault) → Continues read read
itself read = record { front = []; is = before_none read }

pub further : (whole part rest : Result (List ℕ) PayloadFault) → Continues whole part → Continues part rest → Continues whole rest
further whole part rest first second =
    record { front = first.front ++ second.front; is = first.is ∙ ap (before first.front) second.is ∙ before_before first.front second.front rest }

pub refused : (whole part : Result (List ℕ) PayloadFault) (fault : PayloadFault) → Continues whole part → part ≡ Err fault → whole ≡ Err fault
refused whole part fault far is = far.is ∙ ap (before far.front) is

-- one gap
pub one_fits : (d least n gap size : ℕ) (bytes : List ℕ) → gap_in bytes ≡ Ok (record { gap = gap; size = size }) → least + gap < d
    → read_gaps d least (suc n) bytes ≡ before ((least + gap) ∷ []) (read_gaps d (least + gap + 1) n (drop size bytes))
one_fits d least n gap size bytes is low = let test : nat_lt (least + gap) d ≡ true = grind (arith, nat_tests) in rw is (rw test refl)

pub one_over : (d least n gap size : ℕ) (bytes : List ℕ) → gap_in bytes ≡ Ok (record { gap = gap; size = size }) → d ≤ least + gap
    → read_gaps d least (suc n) bytes ≡ Err DocRange
one_over d least n gap size bytes is high = let test : nat_lt (least + gap) d ≡ false = grind (arith, nat_tests) in rw is (rw test refl)

pub one_small : (b : ℕ) (bytes : List ℕ) → b < 128 → gap_in (b ∷ bytes) ≡ Ok (record { gap = b; size = 1 })
unfolding gap_in
one_small b bytes small = let test : nat_lt b 128 ≡ true = grind (arith, nat_tests) in rw test refl

pub no_gap : (d least left : ℕ) (bytes : List ℕ) (fault : PayloadFault) → 1 ≤ left → gap_in bytes ≡ Err fault → read_gaps d least left bytes ≡ Err fault
no_gap d least zero bytes fault some is = absurd (omega arith)
no_gap d least (suc n) bytes fault some is = rw is refl

-- so many gaps of one byte
small_fits : (n m d least : ℕ) (s : List ℕ) → All (λ byte. byte < 128) (take n s) → n ≤ length s → least + sum (take n s) + n ≤ d
    → Continues (read_gaps d least (n + m) s) (read_gaps d (least + sum (take n s) + n) m (drop n s))
small_fits zero m d least s small long fits =
    let none : 0 + m ≡ m = omega arith in
    let same : least ≡ least + 0 + 0 = omega arith in
    rw none (subst (λ x. Continues (read_gaps d least m s) (read_gaps d x m s)) same (itself (read_gaps d least m s)))
small_fits (suc n) m d least [] small long fits = absurd (omega arith)
small_fits (suc n) m d least (b ∷ s) small long fits =
    let sums = sum_by-cons (λ y. y) b (take n s) in
    let next : suc n + m ≡ suc (n + m) = omega arith in
    let behind : least + b + 1 + sum (take n s) + n ≡ least + sum (b ∷ take n s) + suc n = omega (arith, sums) in
    let first = one_fits d least (n + m) b 1 (b ∷ s) (one_small b s (small 0 0 (omega arith))) (omega (arith, sums)) in
    let rest = small_fits n m d (least + b + 1) s (λ k e h. small (suc k) e (omega arith)) (omega arith) (omega (arith, behind)) in
    rw next (further (read_gaps d least (suc (n + m)) (b ∷ s)) (read_gaps d (least + b + 1) (n + m) s) (read_gaps d (least + sum (b ∷ take n s) + suc n) m (drop n s))
    (record { front = (least + b) ∷ []; is = first })
    (subst (λ x. Continues (read_gaps d (least + b + 1) (n + m) s) (read_gaps d x m (drop n s))) behind rest))

small_over : (n m d least : ℕ) (s : List ℕ) → All (λ byte. byte < 128) (take n s) → n ≤ length s → least ≤ d → d < least + sum (take n s) + n
    → read_gaps d least (n + m) s ≡ Err DocRange
small_over zero m d least s small long low over = absurd (omega arith)
small_over (suc n) m d least [] small long low over = absurd (omega arith)
small_over (suc n) m d least (b ∷ s) small long low over =
    let sums = sum_by-cons (λ y. y) b (take n s) in
    let next : suc n + m ≡ suc (n + m) = omega arith in
    let is = one_small b s (small 0 0 (omega arith)) in
    rw next (go (nat_lt (least + b) d) refl is (λ less. small_over n m d (least + b + 1) s (λ k e h. small (suc k) e (omega arith)) (omega arith) less (omega (arith, sums))))
  where
    go : (test : Bool) → nat_lt (least + b) d ≡ test → gap_in (b ∷ s) ≡ Ok (record { gap = b; size = 1 })
        → (least + b + 1 ≤ d → read_gaps d (least + b + 1) (n + m) s ≡ Err DocRange) → read_gaps d least (suc (n + m)) (b ∷ s) ≡ Err DocRange
    go true t is more =
        let less : least + b < d = grind (arith, nat_tests) in
        one_fits d least (n + m) b 1 (b ∷ s) is less ∙ ap (before ((least + b) ∷ [])) (more (omega arith))
    go false t is more = let high : d ≤ least + b = grind (arith, nat_tests) in one_over d least (n + m) b 1 (b ∷ s) is high

pub small_read : (bytes : List ℕ) (at left count : ℕ) → All (λ byte. byte < 128) (take count (drop at bytes)) → at + count ≤ length bytes → count ≤ left
    → ReadsOn bytes at left (sum (take count (drop at bytes))) count (at + count)
small_read bytes at left count small within few =
    let all : count + (left - count) ≡ left = omega arith in
    let s : List ℕ = drop at bytes in
    let long : count ≤ length s = omega (arith, length-drop at bytes) in
    record {
      fits = λ d least room.
          subst (λ n. Continues (read_gaps d least n s) (read_gaps d (least + sum (take count s) + count) (left - count) (drop (at + count) bytes))) all
          (subst (λ (xs : List ℕ). Continues (read_gaps d least (count + (left - count)) s) (read_gaps d (least + sum (take count s) + count) (left - count) xs)) (drop-drop count at bytes)
          (small_fits count (left - count) d least s small long room));
      over = λ d least low over. ap (λ n. read_gaps d least n s) (sym all) ∙ small_over count (left - count) d least s small long low over;
    }

pub gap_read : (bytes : List ℕ) (at left gap next : ℕ) → gap_in (drop at bytes) ≡ Ok (record { gap = gap; size = next - at }) → at ≤ next → 1 ≤ left → ReadsOn bytes at left gap 1 next
gap_read bytes at left gap next is on some =
    let all : left ≡ suc (left - 1) = omega arith in
    let place : at + (next - at) ≡ next = omega arith in
    record {
      fits = λ d least room. record {
        front = (least + gap) ∷ [];
        is = ap (λ n. read_gaps d least n (drop at bytes)) all
            ∙ one_fits d least (left - 1) gap (next - at) (drop at bytes) is (omega arith)
            ∙ ap (λ (xs : List ℕ). before ((least + gap) ∷ []) (read_gaps d (least + gap + 1) (left - 1) xs)) (drop-drop (next - at) at bytes ∙ ap (λ n. drop n bytes) place);
      };
      over = λ d least low over. ap (λ n. read_gaps d least n (drop at bytes)) all ∙ one_over d least (left - 1) gap (next - at) (drop at bytes) is (omega arith);
    }

-- ---- the answer of a check

pub bytes_left : (d least left : ℕ) (bytes : List ℕ) → left ≡ 0 → 0 < length bytes → read_gaps d least left bytes ≡ Err Longer
bytes_left d least left bytes none long = let test : (length bytes == 0) ≡ false = grind (arith, nat_tests) in rw none (rw test refl)

-- ---- a part of the gaps
module _ (bytes s : List ℕ) (at least d count n : ℕ) (whole : count ≡ 16) (are : s ≡ take 16 (drop at bytes)) (within : at + 16 ≤ length bytes) (small : All (λ byte. byte < 128) s) (is : n ≡ sum s) where
  small_on : (left : ℕ) → count ≤ left → ReadsOn bytes at left n 16 (at + 16)
  small_on left few =
      subst (λ m. ReadsOn bytes at left m 16 (at + 16)) (sym (is ∙ ap sum are))
      (small_read bytes at left 16 (subst (λ (xs : List ℕ). All (λ byte. byte < 128) xs) are small) within (omega arith))

  pub sixteen_fit : least + n + 16 ≤ d → (left : ℕ) → count ≤ left → Continues (read_gaps d least left (drop at bytes)) (read_gaps d (least + n + 16) (left - count) (drop (at + 16) bytes))
  sixteen_fit room left few =
      subst (λ m. Continues (read_gaps d least left (drop at bytes)) (read_gaps d (least + n + 16) (left - m) (drop (at + 16) bytes))) (sym whole) ((small_on left few).fits d least room)

  pub sixteen_over : least ≤ d → d < least + n + 16 → (left : ℕ) → count ≤ left → read_gaps d least left (drop at bytes) ≡ Err DocRange
  sixteen_over low over left few = (small_on left few).over d least low over

module _ (all : Result (List ℕ) PayloadFault) (bytes : List ℕ) (at least d left i : ℕ) (far : Continues all (read_gaps d least (left - i) (drop at bytes))) (few : i < left) where
  pub skip_one : (gap next : ℕ) → gap_in (drop at bytes) ≡ Ok (record { gap = gap; size = next - at }) → at < next → least + gap < d → Continues all (read_gaps d (least + (gap + 1)) (left - (i + 1)) (drop next bytes))
  skip_one gap next is on low =
      let behind : least + gap + 1 ≡ least + (gap + 1) = omega arith in
      let fewer : left - i - 1 ≡ left - (i + 1) = omega arith in
      let step = (gap_read bytes at (left - i) gap next is (omega arith) (omega arith)).fits d least (omega arith) in
      subst (λ m. Continues all (read_gaps d m (left - (i + 1)) (drop next bytes))) behind
      (subst (λ m. Continues all (read_gaps d (least + gap + 1) m (drop next bytes))) fewer
      (further all (read_gaps d least (left - i) (drop at bytes)) (read_gaps d (least + gap + 1) (left - i - 1) (drop next bytes)) far step))

  pub skip_over : (gap next : ℕ) → gap_in (drop at bytes) ≡ Ok (record { gap = gap; size = next - at }) → at < next → least ≤ d → d ≤ least + gap → all ≡ Err DocRange
  skip_over gap next is on low high =
      refused all (read_gaps d least (left - i) (drop at bytes)) DocRange far ((gap_read bytes at (left - i) gap next is (omega arith) (omega arith)).over d least low (omega arith))

  pub skip_fault : (fault : PayloadFault) → gap_in (drop at bytes) ≡ Err fault → all ≡ Err fault
  skip_fault fault is = refused all (read_gaps d least (left - i) (drop at bytes)) fault far (no_gap d least (left - i) (drop at bytes) fault (omega arith) is)
