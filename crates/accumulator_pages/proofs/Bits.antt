-- Weights added where the bits of a bitmap are set.
use Rattle.shared_lemmas.proofs.Common.{◌≡◌, ◌≢◌, ◌==◌, ℕ, suc, zero, Bool, true, false, ◌&&◌, cond, nat_lt, nat_le, ◌++◌, ◌+◌, ◌-◌, ◌*◌, ◌/◌, ◌%◌, ◌<◌, ◌≤◌, List, [], ◌∷◌, length, map, filter, take, drop, get_or, set, count_by, All, AllPairs, refl, sym, ap, ◌∙◌, subst, inl, inr, ◌⊎◌, arith}
use Rattle.shared_lemmas.proofs.Common.{get_or-set_other, eq-eqb, bit_at, flat_map, list_any, range_with_len, cases_lt, ne_eqb, eqb_tells, nat_tests, get_or_default_zero, same_number_lists, get_or-drop, get_or-take, get_or_append_left, get_or-append_right, get_or_past, length-drop}
use Rattle.shared_lemmas.proofs.Common.{length-map, length-take, list_any_at, get_or-map-range_with_len, get_or-range_with_len, length-map-range_with_len, length-range_with_len, AllPairs-from_increasing, count_by-le-length, length-filter, sum_by-cons, bit_at-lt, bit_at-zero, same_from_bits_below}
use Rattle.frame_pool.specs.ChainView.{with_page}
use Rattle.jass_base.specs.declared.answer.Hit.{Hit}
use Rattle.lane_kernels.specs.Bitmap.{bit_of, numbers_of_bits, set_bits}
use Rattle.lane_kernels.proofs.SetBits.{set_bits_from_base, set_bits_members, set_bits_rise, in_range}
use Rattle.accumulator_pages.specs.Adding.{added, crossed, raised, score_to_pass}
use Rattle.accumulator_pages.proofs.Adding.{length-added}
use Rattle.accumulator_pages.proofs.Counting.{worth}
use Rattle.accumulator_pages.proofs.Raising.{added-each}

-- ---- how often a number is among those of the set bits

-- one more bit in front
counted_step : (b : Bool) (p : ℕ → Bool) (base i : ℕ) (rest : List ℕ)
    → count_by p (map (λ i. base + i) (cond b (i ∷ rest) rest)) ≡ worth (b && p (base + i)) + count_by p (map (λ i. base + i) rest)
counted_step true p base i rest = sum_by-cons (λ o. worth (p o)) (base + i) (map (λ i. base + i) rest)
counted_step false p base i rest = omega arith

not_one : (b c : Bool) → c ≡ false → worth (b && c) ≡ 0
not_one true c is = ap worth is
not_one false c is = refl

just_one : (b c : Bool) → c ≡ true → worth (b && c) ≡ worth b
just_one true c is = ap worth is
just_one false c is = refl

counted_none : (bit : ℕ → ℕ) (base from n x : ℕ) → ((i : ℕ) → from ≤ i → i < from + n → base + i ≢ x) → count_by (λ o. o == x) (in_range bit base from n) ≡ 0
counted_none bit base from zero x apart = refl
counted_none bit base from (suc n) x apart = omega (
  arith,
  counted_step (bit from == 1) (λ o. o == x) base from (filter (λ i. bit i == 1) (range_with_len (from + 1) n)),
  not_one (bit from == 1) (base + from == x) (ne_eqb (base + from) x (apart from (omega arith) (omega arith))),
  counted_none bit base (from + 1) n x (λ i low high. apart i (omega arith) (omega arith)),
)

counted_once : (bit : ℕ → ℕ) (base from n d : ℕ) → from ≤ d → d < from + n → count_by (λ o. o == base + d) (in_range bit base from n) ≡ worth (bit d == 1)
counted_once bit base from zero d low high = absurd (omega arith)
counted_once bit base from (suc n) d low high =
    let first = counted_step (bit from == 1) (λ o. o == base + d) base from (filter (λ i. bit i == 1) (range_with_len (from + 1) n)) in
    elim (cases_lt from d) as (λ _. count_by (λ o. o == base + d) (in_range bit base from (suc n)) ≡ worth (bit d == 1)) [
      | inl before ↦ omega (
        arith,
        first,
        not_one (bit from == 1) (base + from == base + d) (ne_eqb (base + from) (base + d) (λ e. absurd (omega arith))),
        counted_once bit base (from + 1) n d (omega arith) (omega arith),
      )
      | inr after ↦
          let here : from ≡ d = omega arith in
          omega (
            arith,
            first,
            just_one (bit from == 1) (base + from == base + d) (eq-eqb (base + from) (base + d) (omega arith)),
            ap (λ (i : ℕ). worth (bit i == 1)) here,
            counted_none bit base (from + 1) n (base + d) (λ i more less e. absurd (omega arith)),
          )
    ]

-- a bit is 0 or 1
bit_is_worth : (bits : List ℕ) (i : ℕ) → worth (bit_of bits i == 1) ≡ bit_of bits i
bit_is_worth bits i = two (bit_of bits i) (omega arith)
  where
    two : (b : ℕ) → b < 2 → worth (b == 1) ≡ b
    two b small = grind (arith, nat_tests)

pub past_bits : (bits : List ℕ) (i : ℕ) → 8 * length bits ≤ i → bit_of bits i ≡ 0
past_bits bits i past = ap (λ (b : ℕ). bit_at b (i % 8)) (get_or_past bits (i / 8) 0 (omega arith)) ∙ bit_at-zero (i % 8)

-- the number base + d is there as often as bit d is set
pub bits_counted : (base d : ℕ) (bits : List ℕ) → count_by (λ o. o == base + d) (set_bits base bits) ≡ bit_of bits d
unfolding numbers_of_bits
bits_counted base d bits =
    elim (cases_lt d (8 * length bits)) as (λ _. count_by (λ o. o == base + d) (in_range (bit_of bits) base 0 (8 * length bits)) ≡ bit_of bits d) [
      | inl within ↦ counted_once (bit_of bits) base 0 (8 * length bits) d (omega arith) (omega arith) ∙ bit_is_worth bits d
      | inr past ↦
          counted_none (bit_of bits) base 0 (8 * length bits) (base + d) (λ i low high e. absurd (omega arith)) ∙ sym (past_bits bits d past)
    ]

-- no number below base is there
pub bits_not_before : (base x : ℕ) (bits : List ℕ) → x < base → count_by (λ o. o == x) (set_bits base bits) ≡ 0
unfolding numbers_of_bits
bits_not_before base x bits before = counted_none (bit_of bits) base 0 (8 * length bits) x (λ i low high e. absurd (omega arith))

-- ---- the scores

pub added-bits : (w base d : ℕ) (bits s : List ℕ) → base + d < length s
    → get_or (added w (set_bits base bits) s) (base + d) 0 ≡ get_or s (base + d) 0 + w * bit_of bits d
added-bits w base d bits s inside =
    added-each w (base + d) (set_bits base bits) s inside ∙ ap (λ (n : ℕ). get_or s (base + d) 0 + w * n) (bits_counted base d bits)

pub added-bits_before : (w base d : ℕ) (bits s : List ℕ) → d < base → d < length s → get_or (added w (set_bits base bits) s) d 0 ≡ get_or s d 0
added-bits_before w base d bits s before inside =
    added-each w d (set_bits base bits) s inside ∙ ap (λ (n : ℕ). get_or s d 0 + w * n) (bits_not_before base d bits before) ∙ omega arith

-- the bit of a slot of a page, where the bits are those of one half of it
abbrev pub half_bit : List ℕ → ℕ → ℕ → ℕ
half_bit bits half slot = cond (slot / 128 == half) (bit_of bits (slot % 128)) 0

-- a document of no bit
added-outside : (w row d : ℕ) (bits s : List ℕ) → 8 * length bits ≤ 128 → d < length s → d / 128 ≢ row → get_or (added w (set_bits (128 * row) bits) s) d 0 ≡ get_or s d 0
added-outside w row d bits s few inside apart = elim (cases_lt d (128 * row)) as (λ _. get_or (added w (set_bits (128 * row) bits) s) d 0 ≡ get_or s d 0) [
  | inl before ↦ added-bits_before w (128 * row) d bits s before inside
  | inr after ↦
      let past : 8 * length bits ≤ d - 128 * row =
      elim (cases_lt (d - 128 * row) 128) as (λ _. 8 * length bits ≤ d - 128 * row) [ inl near ↦ absurd (apart (omega (arith, near, after))) | inr far ↦ omega (arith, far, few) ] in
      let at : 128 * row + (d - 128 * row) ≡ d = omega (arith, after) in
      subst (λ (e : ℕ). get_or (added w (set_bits (128 * row) bits) s) e 0 ≡ get_or s e 0) at
      (added-bits w (128 * row) (d - 128 * row) bits s (omega (arith, at, inside))
      ∙ ap (λ (b : ℕ). get_or s (128 * row + (d - 128 * row)) 0 + w * b) (past_bits bits (d - 128 * row) past) ∙ omega arith)
]

added-half : (w row d : ℕ) (bits s : List ℕ) → 8 * length bits ≤ 128 → d < length s → d / 256 ≡ row / 2
    → get_or (added w (set_bits (128 * row) bits) s) d 0 ≡ get_or s d 0 + w * half_bit bits (row % 2) (d % 256)
added-half w row d bits s few inside page =
    elim (eqb_tells (d % 256 / 128) (row % 2)) as (λ _. get_or (added w (set_bits (128 * row) bits) s) d 0 ≡ get_or s d 0 + w * half_bit bits (row % 2) (d % 256)) [
      | inl same ↦
          let at : 128 * row + d % 256 % 128 ≡ d = omega (arith, same.1) in
          subst (λ (e : ℕ). get_or (added w (set_bits (128 * row) bits) s) e 0 ≡ get_or s e 0 + w * bit_of bits (d % 256 % 128)) at
          (added-bits w (128 * row) (d % 256 % 128) bits s (omega (arith, at)))
          ∙ sym (ap (λ (b : Bool). get_or s d 0 + w * cond b (bit_of bits (d % 256 % 128)) 0) same.0)
      | inr other ↦
          added-outside w row d bits s few inside (λ e. other.1 (omega (arith, e, page)))
          ∙ sym (ap (λ (b : Bool). get_or s d 0 + w * cond b (bit_of bits (d % 256 % 128)) 0) other.0 ∙ omega arith)
    ]

-- where the weight was added to the slots of one half of a page, it was added to the documents of the bits
pub added_is_page : (w row : ℕ) (bits s slots : List ℕ) → 8 * length bits ≤ 128
    → ((slot : ℕ) → slot < 256 → 256 * (row / 2) + slot < length s → get_or slots slot 0 ≡ get_or s (256 * (row / 2) + slot) 0 + w * half_bit bits (row % 2) slot)
    → added w (set_bits (128 * row) bits) s ≡ with_page (row / 2) slots s
added_is_page w row bits s slots few slots_are =
    let after : ℕ → ℕ = λ d. cond (d / 256 == row / 2) (get_or slots (d % 256) 0) (get_or s d 0) in
    let new : List ℕ = added w (set_bits (128 * row) bits) s in
    let size : length new ≡ length s = length-added w (set_bits (128 * row) bits) s in
    let each : (d : ℕ) → d < length s → get_or new d 0 ≡ after d = λ d inside. elim (eqb_tells (d / 256) (row / 2)) as (λ _. get_or new d 0 ≡ after d) [
      | inl same ↦
          let at : 256 * (row / 2) + d % 256 ≡ d = omega (arith, same.1) in
          added-half w row d bits s few inside same.1 ∙ ap (λ (e : ℕ). get_or s e 0 + w * half_bit bits (row % 2) (d % 256)) (sym at)
          ∙ sym (slots_are (d % 256) (omega arith) (omega (arith, at, inside)))
          ∙ sym (ap (λ (b : Bool). cond b (get_or slots (d % 256) 0) (get_or s d 0)) same.0)
      | inr other ↦
          added-outside w row d bits s few inside (λ e. other.1 (omega (arith, e)))
          ∙ sym (ap (λ (b : Bool). cond b (get_or slots (d % 256) 0) (get_or s d 0)) other.0)
    ] in
    same_number_lists new (map after (range_with_len 0 (length s))) (size ∙ sym (length-map-range_with_len after 0 (length s)))
    (λ d inside. each d (omega (arith, inside, size)) ∙ sym (get_or-map-range_with_len after 0 (length s) d d 0 (omega (arith, inside, size)) (omega arith)))

-- ---- who passes a hit

-- the documents after the first differ from it, and from each other
apart_first : (x : ℕ) (docs : List ℕ) → AllPairs (λ a b. a ≢ b) (x ∷ docs) → (k : ℕ) → k < length docs → get_or docs k 0 ≢ x
apart_first x docs apart k inside e = apart 0 (suc k) 0 (omega arith) (omega arith) (sym e)

apart_rest : (x : ℕ) (docs : List ℕ) → AllPairs (λ a b. a ≢ b) (x ∷ docs) → AllPairs (λ a b. a ≢ b) docs
apart_rest x docs apart i j d before inside = apart (suc i) (suc j) d (omega arith) (omega arith)

pub flat_map-same : (f g : ℕ → List ℕ) (xs : List ℕ) → ((k : ℕ) → k < length xs → g (get_or xs k 0) ≡ f (get_or xs k 0)) → flat_map g xs ≡ flat_map f xs
flat_map-same f g [] same = refl
flat_map-same f g (x ∷ xs) same =
    ap (λ (ys : List ℕ). ys ++ flat_map g xs) (same 0 (omega arith)) ∙ ap (λ (ys : List ℕ). f x ++ ys) (flat_map-same f g xs (λ k inside. same (suc k) (omega arith)))

flat_map-nil : (f : ℕ → List ℕ) (xs : List ℕ) → ((k : ℕ) → k < length xs → f (get_or xs k 0) ≡ []) → flat_map f xs ≡ []
flat_map-nil f [] none = refl
flat_map-nil f (x ∷ xs) none = ap (λ (ys : List ℕ). ys ++ flat_map f xs) (none 0 (omega arith)) ∙ flat_map-nil f xs (λ k inside. none (suc k) (omega arith))

-- documents that differ pass a hit each by its own score
pub raised-apart : (w : ℕ) (last : Hit) (docs s : List ℕ) → AllPairs (λ a b. a ≢ b) docs
    → raised w last docs s ≡ flat_map (λ d. crossed d (get_or s d 0) (get_or s d 0 + w) last) docs
raised-apart w last [] s apart = refl
raised-apart w last (x ∷ docs) s apart =
    let after : List ℕ = set s x (get_or s x 0 + w) in
    ap (λ (ys : List ℕ). crossed x (get_or s x 0) (get_or s x 0 + w) last ++ ys) (raised-apart w last docs after (apart_rest x docs apart)
    ∙ flat_map-same (λ d. crossed d (get_or s d 0) (get_or s d 0 + w) last) (λ d. crossed d (get_or after d 0) (get_or after d 0 + w) last) docs
    (λ k inside. ap (λ (v : ℕ). crossed (get_or docs k 0) v (v + w) last)
    (get_or-set_other s x (get_or docs k 0) (get_or s x 0 + w) 0 (apart_first x docs apart k inside))))

pub bits_apart : (base : ℕ) (bits : List ℕ) → AllPairs (λ a b. a ≢ b) (set_bits base bits)
bits_apart base bits i j d before inside e =
    absurd (omega (arith, AllPairs-from_increasing (set_bits base bits) (set_bits_rise base bits) i j d before inside, e))

pub raised-bits : (w base : ℕ) (last : Hit) (bits s : List ℕ)
    → raised w last (set_bits base bits) s ≡ flat_map (λ d. crossed d (get_or s d 0) (get_or s d 0 + w) last) (set_bits base bits)
raised-bits w base last bits s = raised-apart w last (set_bits base bits) s (bits_apart base bits)

-- a score that is still below a hit's, or was above it already, passes none
pub not_crossed : (x before after : ℕ) (last : Hit) → (after < last.score) ⊎ (last.score < before) → crossed x before after last ≡ []
not_crossed x before after last far =
    ap (λ (b : Bool). cond b (x ∷ []) []) (stays_out before after last.score (score_to_pass last x) (floor_of (nat_lt x last.doc) last.score) far)
  where
    floor_of : (b : Bool) (score : ℕ) → (score ≤ cond b score (score + 1)) × (cond b score (score + 1) ≤ score + 1)
    floor_of true score = (omega arith, omega arith)
    floor_of false score = (omega arith, omega arith)

    stays_out : (before after score floor : ℕ) → (score ≤ floor) × (floor ≤ score + 1) → (after < score) ⊎ (score < before) → (nat_lt before floor && nat_le floor after) ≡ false
    stays_out before after score floor between (inl below) = let low : score ≤ floor = between.0 in grind (arith, nat_tests)
    stays_out before after score floor between (inr above) = let high : floor ≤ score + 1 = between.1 in grind (arith, nat_tests)

-- a number among those of the set bits is base and a bit that is set
pub bit_of_number_there : (base : ℕ) (bits : List ℕ) (k : ℕ) → k < length (set_bits base bits)
    → (i : ℕ) × (get_or (set_bits base bits) k 0 ≡ base + i) × (i < 8 * length bits) × (bit_of bits i ≡ 1)
bit_of_number_there base bits k inside =
    let d : ℕ = get_or (set_bits base bits) k 0 in
    let i : ℕ = d - base in
    let from : base ≤ d = set_bits_from_base base bits k 0 inside in
    let is : d ≡ base + i = omega (arith, from) in
    let bit : bit_of bits i ≡ 1 = (set_bits_members base bits i).0 (k, inside, get_or_default_zero (set_bits base bits) k (base + i) inside ∙ is) in
    let within : i < 8 * length bits =
    elim (cases_lt i (8 * length bits)) as (λ _. i < 8 * length bits) [ inl low ↦ low | inr high ↦ absurd (omega (arith, bit, past_bits bits i high)) ] in
    (i, is, within, bit)

-- where each score is further from the hit's than the weight, none passes it
pub raised-none : (w base : ℕ) (last : Hit) (bits s : List ℕ)
    → ((i : ℕ) → i < 8 * length bits → bit_of bits i ≡ 1 → (get_or s (base + i) 0 + w < last.score) ⊎ (last.score + w < get_or s (base + i) 0 + w))
    → raised w last (set_bits base bits) s ≡ []
raised-none w base last bits s far = raised-bits w base last bits s
    ∙ flat_map-nil (λ d. crossed d (get_or s d 0) (get_or s d 0 + w) last) (set_bits base bits) (λ k inside.
    let there = bit_of_number_there base bits k inside in
    ap (λ (d : ℕ). crossed d (get_or s d 0) (get_or s d 0 + w) last) there.1
    ∙ not_crossed (base + there.0) (get_or s (base + there.0) 0) (get_or s (base + there.0) 0 + w) last (clear (get_or s (base + there.0) 0) (far there.0 there.2 there.3)))
  where
    clear : (score : ℕ) → (score + w < last.score) ⊎ (last.score + w < score + w) → (score + w < last.score) ⊎ (last.score < score)
    clear score (inl below) = inl below
    clear score (inr above) = inr (omega arith)

-- ---- the slots of half a page

-- the part of a page's slots to which the weight was added
pub part_added : (w half n i : ℕ) (bits lent : List ℕ) → length lent ≡ 256 → 128 * half + n ≤ 256 → i < n
    → get_or (map (λ i. get_or (take n (drop (128 * half) lent)) i 0 + w * bit_of bits i) (range_with_len 0 (length (take n (drop (128 * half) lent))))) i 0
    ≡ get_or lent (128 * half + i) 0 + w * bit_of bits i
part_added w half n i bits lent size within inside =
    let part : List ℕ = take n (drop (128 * half) lent) in
    get_or-map-range_with_len (λ i. get_or part i 0 + w * bit_of bits i) 0 (length part) i i 0
    (omega (arith, inside, size, within, length-take n (drop (128 * half) lent), length-drop (128 * half) lent)) (omega arith)
    ∙ ap (λ (v : ℕ). v + w * bit_of bits i) (get_or-take n (drop (128 * half) lent) i 0 inside ∙ get_or-drop (128 * half) lent i 0)

-- the page's slots with such a part in its place
pub put_half : (w half slot : ℕ) (bits lent part : List ℕ) → half < 2 → 8 * length bits ≤ 128 → length lent ≡ 256 → length part ≡ 8 * length bits
    → ((i : ℕ) → i < 8 * length bits → get_or part i 0 ≡ get_or lent (128 * half + i) 0 + w * bit_of bits i) → slot < 256
    → get_or (take (128 * half) lent ++ (part ++ drop (8 * length bits) (drop (128 * half) lent))) slot 0 ≡ get_or lent slot 0 + w * half_bit bits half slot
put_half w half slot bits lent part one few size part_size part_is small =
    let from : ℕ = 128 * half in
    let n : ℕ = 8 * length bits in
    let front : List ℕ = take from lent in
    let back : List ℕ = drop n (drop from lent) in
    let front_size : length front ≡ from = omega (arith, length-take from lent, size, one) in
    elim (cases_lt slot from) as (λ _. get_or (front ++ (part ++ back)) slot 0 ≡ get_or lent slot 0 + w * half_bit bits half slot) [
      | inl before ↦
          get_or_append_left front (part ++ back) 0 slot (omega (arith, before, front_size)) ∙ get_or-take from lent slot 0 before
          ∙ other_half (λ e. absurd (omega (arith, e, before)))
      | inr after ↦
          get_or-append_right front (part ++ back) from slot 0 front_size after
          ∙ elim (cases_lt (slot - from) n) as (λ _. get_or (part ++ back) (slot - from) 0 ≡ get_or lent slot 0 + w * half_bit bits half slot) [
            | inl within ↦
                let at : from + (slot - from) ≡ slot = omega (arith, after) in
                let here : slot / 128 ≡ half = omega (arith, after, within, few) in
                get_or_append_left part back 0 (slot - from) (omega (arith, within, part_size)) ∙ part_is (slot - from) within
                ∙ ap (λ (d : ℕ). get_or lent d 0 + w * bit_of bits (slot - from)) at
                ∙ ap (λ (i : ℕ). get_or lent slot 0 + w * bit_of bits i) (let e : slot - from ≡ slot % 128 = omega (arith, after, here) in e)
                ∙ sym (ap (λ (b : Bool). get_or lent slot 0 + w * cond b (bit_of bits (slot % 128)) 0) (eq-eqb (slot / 128) half here))
            | inr past ↦
                get_or-append_right part back n (slot - from) 0 part_size past
                ∙ get_or-drop n (drop from lent) (slot - from - n) 0 ∙ get_or-drop from lent (n + (slot - from - n)) 0
                ∙ ap (λ (d : ℕ). get_or lent d 0) (let e : from + (n + (slot - from - n)) ≡ slot = omega (arith, after, past) in e)
                ∙ elim (eqb_tells (slot / 128) half) as (λ _. get_or lent slot 0 ≡ get_or lent slot 0 + w * half_bit bits half slot) [
                  | inl here ↦
                      let zero_bit : bit_of bits (slot % 128) ≡ 0 = past_bits bits (slot % 128) (omega (arith, here.1, past, after)) in
                      sym (ap (λ (b : Bool). get_or lent slot 0 + w * cond b (bit_of bits (slot % 128)) 0) here.0
                      ∙ ap (λ (b : ℕ). get_or lent slot 0 + w * b) zero_bit ∙ omega arith)
                  | inr there ↦ other_half there.1
                ]
          ]
    ]
  where
    other_half : slot / 128 ≢ half → get_or lent slot 0 ≡ get_or lent slot 0 + w * half_bit bits half slot
    other_half apart = sym (ap (λ (b : Bool). get_or lent slot 0 + w * cond b (bit_of bits (slot % 128)) 0) (ne_eqb (slot / 128) half apart) ∙ omega arith)

-- ---- what the slots tell

-- where none of the slots after is at least the hit's score and at most the weight above it, none passed it
pub raised-not_near : (w base : ℕ) (last : Hit) (bits s slots : List ℕ) → length slots ≡ 8 * length bits
    → ((i : ℕ) → i < 8 * length bits → bit_of bits i ≡ 1 → get_or slots i 0 ≡ get_or s (base + i) 0 + w)
    → list_any (λ i. (bit_of bits i == 1) && (nat_le last.score (get_or slots i 0) && nat_le (get_or slots i 0) (last.score + w))) (range_with_len 0 (length slots)) ≡ false
    → raised w last (set_bits base bits) s ≡ []
raised-not_near w base last bits s slots size are none =
    raised-none w base last bits s (λ i low set. far i low set (cases_lt (get_or slots i 0) last.score) (cases_lt (last.score + w) (get_or slots i 0)))
  where
    is_near : (bit score slot : ℕ) → bit ≡ 1 → score ≤ slot → slot ≤ score + w → ((bit == 1) && (nat_le score slot && nat_le slot (score + w))) ≡ true
    is_near bit score slot set low high = grind (arith, nat_tests)

    not_both : (b : Bool) → b ≡ true → b ≡ false → ⊥
    not_both b t f = cc

    far : (i : ℕ) → i < 8 * length bits → bit_of bits i ≡ 1 → (get_or slots i 0 < last.score) ⊎ (last.score ≤ get_or slots i 0)
        → (last.score + w < get_or slots i 0) ⊎ (get_or slots i 0 ≤ last.score + w) → (get_or s (base + i) 0 + w < last.score) ⊎ (last.score + w < get_or s (base + i) 0 + w)
    far i low set (inl below) high = inl (omega (arith, below, are i low set))
    far i low set (inr from) (inl above) = inr (omega (arith, above, are i low set))
    far i low set (inr from) (inr to) =
        let inside : i < length (range_with_len 0 (length slots)) = omega (arith, low, size, length-range_with_len 0 (length slots)) in
        let at : get_or (range_with_len 0 (length slots)) i 0 ≡ i = get_or-range_with_len 0 (length slots) i 0 (omega (arith, low, size)) ∙ omega arith in
        absurd (not_both (list_any (λ i. (bit_of bits i == 1) && (nat_le last.score (get_or slots i 0) && nat_le (get_or slots i 0) (last.score + w))) (range_with_len 0 (length slots)))
        (list_any_at (λ i. (bit_of bits i == 1) && (nat_le last.score (get_or slots i 0) && nat_le (get_or slots i 0) (last.score + w))) (range_with_len 0 (length slots)) i 0 inside
        (ap (λ (j : ℕ). (bit_of bits j == 1) && (nat_le last.score (get_or slots j 0) && nat_le (get_or slots j 0) (last.score + w))) at
        ∙ is_near (bit_of bits i) last.score (get_or slots i 0) set from to)) none)

-- who passed the hit, by the scores after
pub raised-by_new : (w base : ℕ) (last : Hit) (bits s new : List ℕ) → All (λ d. d < length s) (set_bits base bits) → new ≡ added w (set_bits base bits) s
    → raised w last (set_bits base bits) s ≡ flat_map (λ d. crossed d (get_or new d 0 - w) (get_or new d 0) last) (set_bits base bits)
raised-by_new w base last bits s new within is = raised-bits w base last bits s
    ∙ flat_map-same (λ d. crossed d (get_or new d 0 - w) (get_or new d 0) last) (λ d. crossed d (get_or s d 0) (get_or s d 0 + w) last) (set_bits base bits) (λ k inside.
    let there = bit_of_number_there base bits k inside in let i : ℕ = there.0 in
    let low : base + i < length s = omega (arith, within k 0 inside, there.1) in
    let rose : get_or new (base + i) 0 ≡ get_or s (base + i) 0 + w =
    ap (λ (xs : List ℕ). get_or xs (base + i) 0) is ∙ added-bits w base i bits s low ∙ ap (λ (b : ℕ). get_or s (base + i) 0 + w * b) there.3 ∙ omega arith in
    subst (λ (d : ℕ). crossed d (get_or s d 0) (get_or s d 0 + w) last ≡ crossed d (get_or new d 0 - w) (get_or new d 0) last) (sym there.1)
    (ap (λ (v : ℕ). crossed (base + i) v (get_or s (base + i) 0 + w) last) (let e : get_or s (base + i) 0 ≡ get_or new (base + i) 0 - w = omega (arith, rose) in e)
    ∙ ap (λ (v : ℕ). crossed (base + i) (get_or new (base + i) 0 - w) v last) (sym rose)))

-- ---- how many bits are set

pub length-set_bits : (base : ℕ) (bits : List ℕ) → length (set_bits base bits) ≤ 8 * length bits
unfolding numbers_of_bits
length-set_bits base bits =
    let p : ℕ → Bool = λ i. bit_of bits i == 1 in
    let all : List ℕ = range_with_len 0 (8 * length bits) in
    omega (arith, length-map (filter p all) (λ i. base + i), length-filter p all, count_by-le-length p all, length-range_with_len 0 (8 * length bits))

nil_of_none : (xs : List ℕ) → (0 < length xs → ⊥) → xs ≡ []
nil_of_none [] none = refl
nil_of_none (x ∷ xs) none = absurd (none (omega arith))

-- no bit of bytes that are 0 is set
pub none_set : (bits : List ℕ) → ((k : ℕ) → k < length bits → get_or bits k 0 ≡ 0) → (base : ℕ) → set_bits base bits ≡ []
none_set bits zeros base = nil_of_none (set_bits base bits) (λ some.
    let there = bit_of_number_there base bits 0 some in let i : ℕ = there.0 in
    let unset : bit_of bits i ≡ 0 = ap (λ (b : ℕ). bit_at b (i % 8)) (zeros (i / 8) (omega (arith, there.2))) ∙ bit_at-zero (i % 8) in
    absurd (omega (arith, unset, there.3)))

-- a byte that isn't 0 has a bit that is set
pub some_set : (bits : List ℕ) (k : ℕ) → k < length bits → get_or bits k 0 < 256 → get_or bits k 0 ≢ 0 → (base : ℕ) → 1 ≤ length (set_bits base bits)
some_set bits k inside byte other base = elim (cases_lt 0 (length (set_bits base bits))) as (λ _. 1 ≤ length (set_bits base bits)) [
  | inl some ↦ some
  | inr none ↦ absurd (other (same_from_bits_below 8 (get_or bits k 0) 0 byte (omega arith) (λ i low. unset none i low ∙ sym (bit_at-zero i))))
]
  where
    unset : length (set_bits base bits) ≤ 0 → (i : ℕ) → i < 8 → bit_at (get_or bits k 0) i ≡ 0
    unset none i low =
        let at : bit_of bits (8 * k + i) ≡ bit_at (get_or bits k 0) i =
        ap (λ (j : ℕ). bit_at (get_or bits j 0) ((8 * k + i) % 8)) (let e : (8 * k + i) / 8 ≡ k = omega (arith, low) in e)
        ∙ ap (λ (j : ℕ). bit_at (get_or bits k 0) j) (let e : (8 * k + i) % 8 ≡ i = omega (arith, low) in e) in
        elim (cases_lt (bit_at (get_or bits k 0) i) 1) as (λ _. bit_at (get_or bits k 0) i ≡ 0) [
          | inl zero_bit ↦ omega (arith, zero_bit)
          | inr set ↦
              let one : bit_of bits (8 * k + i) ≡ 1 = omega (arith, at, set, bit_at-lt (get_or bits k 0) i) in
              let has = (set_bits_members base bits (8 * k + i)).1 one in
              absurd (omega (arith, has.1, none))
        ]
