-- The slots of half a page, to which a weight is added where bits are set.
use Rattle.shared_lemmas.proofs.Common.{◌≡◌, ◌≢◌, ℕ, Bool, false, cond, filter, ◌++◌, ◌+◌, ◌-◌, ◌*◌, ◌/◌, ◌%◌, ◌^◌, ◌<◌, ◌≤◌, List, [], length, take, drop, get_or, All, refl, sym, ap, ◌∙◌, subst, inl, inr, arith, flat_map, cases_lt, eqb_tells, get_or_default_zero, get_or-drop, get_or-take, length-drop}
use Rattle.shared_lemmas.proofs.Common.{length-take, length-filter, count_by-le-length, All-filter, All-get_or, length-map-range_with_len, bit_at-lt}
use Rattle.frame_pool.specs.ChainView.{with_page}
use Rattle.jass_base.specs.declared.answer.Hit.{Hit}
use Rattle.lane_kernels.specs.Adding.{added_where, is_near, near_where}
use Rattle.lane_kernels.specs.Bitmap.{bit_of, set_bits}
use Rattle.lane_kernels.proofs.SetBits.{set_bits_members}
use Rattle.accumulator_pages.specs.Adding.{added, crossed, page_count, raised}
use Rattle.accumulator_pages.specs.Pages.{HasTouched, no_frame}
use Rattle.accumulator_pages.proofs.Adding.{added-above, length-added}
use Rattle.accumulator_pages.proofs.Bits.{added-bits, added_is_page, bit_of_number_there, half_bit, part_added, past_bits, flat_map-same, put_half, raised-not_near}
use Rattle.accumulator_pages.proofs.NearBits.{near_noted, set_bits_picked, unset}

-- ---- the documents of set bits

pub bit_inside : (base n i : ℕ) (bits : List ℕ) → All (λ d. d < n) (set_bits base bits) → bit_of bits i ≡ 1 → base + i < n
bit_inside base n i bits within set = let has = (set_bits_members base bits i).1 set in omega (arith, within has.0 (base + i) has.1, has.2)

-- the first of them is in the page of the row
pub row_inside : (row docs : ℕ) (bits : List ℕ) → length bits ≤ 16 → 1 ≤ length (set_bits (128 * row) bits) → All (λ d. d < docs) (set_bits (128 * row) bits) → row / 2 < page_count docs
row_inside row docs bits few some within =
    let there = bit_of_number_there (128 * row) bits 0 some in
    let inside : 128 * row + there.0 < docs = bit_inside (128 * row) docs there.0 bits within there.3 in
    omega (arith, inside)

added-set : (w base i : ℕ) (bits s : List ℕ) → base + i < length s → bit_of bits i ≡ 1 → get_or (added w (set_bits base bits) s) (base + i) 0 ≡ get_or s (base + i) 0 + w
added-set w base i bits s inside set = added-bits w base i bits s inside ∙ ap (λ (b : ℕ). get_or s (base + i) 0 + w * b) set ∙ omega arith

-- each of them has the weight
pub rose : (w base : ℕ) (bits s new : List ℕ) → All (λ d. d < length s) (set_bits base bits) → new ≡ added w (set_bits base bits) s → All (λ d. w ≤ get_or new d 0) (set_bits base bits)
rose w base bits s new within is k d inside =
    let there = bit_of_number_there base bits k inside in
    let low : base + there.0 < length s = bit_inside base (length s) there.0 bits within there.3 in
    let at : get_or (set_bits base bits) k d ≡ base + there.0 = get_or_default_zero (set_bits base bits) k d inside ∙ there.1 in
    subst (λ (e : ℕ). w ≤ get_or new e 0) (sym at)
    (omega (arith, ap (λ (xs : List ℕ). get_or xs (base + there.0) 0) is, added-set w base there.0 bits s low there.3))

-- each page with a frame has a touched document still, and so has that of the row
pub used_by_bits : (table table' s : List ℕ) (row w : ℕ) (bits : List ℕ) → length table' ≡ length table → ((other : ℕ) → other ≢ row / 2 → get_or table' other 0 ≡ get_or table other 0)
    → length bits ≤ 16 → 1 ≤ length (set_bits (128 * row) bits) → All (λ d. d < length s) (set_bits (128 * row) bits) → 1 ≤ w
    → ((page : ℕ) → page < length table → get_or table page 0 ≢ no_frame → HasTouched s page)
    → (page : ℕ) → page < length table' → get_or table' page 0 ≢ no_frame → HasTouched (added w (set_bits (128 * row) bits) s) page
used_by_bits table table' s row w bits same others few some within weight used page inside entry =
    elim (eqb_tells page (row / 2)) as (λ _. HasTouched (added w (set_bits (128 * row) bits) s) page) [
      | inl here ↦
          let there = bit_of_number_there (128 * row) bits 0 some in
          let low : 128 * row + there.0 < length s = bit_inside (128 * row) (length s) there.0 bits within there.3 in
          (128 * row + there.0, omega (arith, here.1, there.2, few), omega (arith, added-set w (128 * row) there.0 bits s low there.3, weight))
      | inr other ↦
          let had : HasTouched s page = used page (omega (arith, inside, same)) (λ e. entry (others page other.1 ∙ e)) in
          (had.0, had.1, omega (arith, added-above w (set_bits (128 * row) bits) s had.0, had.2))
    ]

-- ---- the slots of half a page

-- the slots that a page's frame lends: each of them is the score of its document
abbrev pub AreSlots : List ℕ → List ℕ → ℕ → Type 0
AreSlots lent s page = (slot : ℕ) → slot < 256 → 256 * page + slot < length s → get_or lent slot 0 ≡ get_or s (256 * page + slot) 0

abbrev pub half_of : List ℕ → ℕ → ℕ → List ℕ
half_of lent half n = take n (drop (128 * half) lent)

length-half : (lent : List ℕ) (half n : ℕ) → length lent ≡ 256 → half < 2 → n ≤ 128 → length (half_of lent half n) ≡ n
length-half lent half n size one few = omega (arith, size, one, few, length-take n (drop (128 * half) lent), length-drop (128 * half) lent)

-- the slot of a set bit was the score of its document
slot_was : (row n i : ℕ) (bits s lent : List ℕ) → length bits ≤ 16 → n ≡ 8 * length bits → AreSlots lent s (row / 2) → All (λ d. d < length s) (set_bits (128 * row) bits)
    → i < 8 * length bits → bit_of bits i ≡ 1 → get_or (half_of lent (row % 2) n) i 0 ≡ get_or s (128 * row + i) 0
slot_was row n i bits s lent few is are within low set =
    let inside : 128 * row + i < length s = bit_inside (128 * row) (length s) i bits within set in
    let at : 256 * (row / 2) + (128 * (row % 2) + i) ≡ 128 * row + i = omega arith in
    get_or-take n (drop (128 * (row % 2)) lent) i 0 (omega (arith, low, is)) ∙ get_or-drop (128 * (row % 2)) lent i 0
    ∙ are (128 * (row % 2) + i) (omega (arith, low, few)) (omega (arith, inside, at)) ∙ ap (λ (d : ℕ). get_or s d 0) at

-- the weight fits into each slot: it is added to those of documents alone
pub half_fits : (w row n : ℕ) (bits s lent : List ℕ) → length bits ≤ 16 → n ≡ 8 * length bits → AreSlots lent s (row / 2) → All (λ d. d < length s) (set_bits (128 * row) bits)
    → ((d : ℕ) → get_or lent d 0 < 2 ^ 32) → All (λ score. score < 2 ^ 32) (added w (set_bits (128 * row) bits) s)
    → (i : ℕ) → i < length (half_of lent (row % 2) n) → get_or (half_of lent (row % 2) n) i 0 + w * bit_of bits i < 2 ^ 32
half_fits w row n bits s lent few is are within small fits i inside =
    let low : i < n = omega (arith, inside, length-take n (drop (128 * (row % 2)) lent)) in
    elim (cases_lt (bit_of bits i) 1) as (λ _. get_or (half_of lent (row % 2) n) i 0 + w * bit_of bits i < 2 ^ 32) [
      | inl unset ↦
          let none : w * bit_of bits i ≡ 0 = ap (λ (b : ℕ). w * b) (let e : bit_of bits i ≡ 0 = omega (arith, unset) in e) ∙ omega arith in
          let slot : get_or (half_of lent (row % 2) n) i 0 ≡ get_or lent (128 * (row % 2) + i) 0 =
          get_or-take n (drop (128 * (row % 2)) lent) i 0 low ∙ get_or-drop (128 * (row % 2)) lent i 0 in
          omega (arith, none, slot, small (128 * (row % 2) + i))
      | inr above ↦
          let set : bit_of bits i ≡ 1 = omega (arith, above, bit_at-lt (get_or bits (i / 8) 0) (i % 8)) in
          let there : 128 * row + i < length s = bit_inside (128 * row) (length s) i bits within set in
          let once : w * bit_of bits i ≡ w = ap (λ (b : ℕ). w * b) set ∙ omega arith in
          let after : get_or (added w (set_bits (128 * row) bits) s) (128 * row + i) 0 < 2 ^ 32 =
          All-get_or (λ score. score < 2 ^ 32) (added w (set_bits (128 * row) bits) s) (128 * row + i) 0 (omega (arith, there, length-added w (set_bits (128 * row) bits) s)) fits in
          omega (arith, once, after, added-set w (128 * row) i bits s there set, slot_was row n i bits s lent few is are within (omega (arith, low, is)) set)
    ]

-- with the half's slots raised the page has the scores after
pub half_raised : (w row n : ℕ) (bits s lent part : List ℕ) → length bits ≤ 16 → n ≡ 8 * length bits → length lent ≡ 256 → AreSlots lent s (row / 2)
    → part ≡ added_where w bits (half_of lent (row % 2) n)
    → with_page (row / 2) (take (128 * (row % 2)) lent ++ (part ++ drop n (drop (128 * (row % 2)) lent))) s ≡ added w (set_bits (128 * row) bits) s
half_raised w row n bits s lent part few is size are made =
    let half : ℕ = row % 2 in
    let from : ℕ = 128 * half in
    let m : ℕ = 8 * length bits in
    let made_of : part ≡ added_where w bits (half_of lent half m) = made ∙ ap (λ (k : ℕ). added_where w bits (half_of lent half k)) is in
    let part_size : length part ≡ m = ap (λ (xs : List ℕ). length xs) made_of
    ∙ length-map-range_with_len (λ i. get_or (half_of lent half m) i 0 + w * bit_of bits i) 0 (length (half_of lent half m))
    ∙ length-half lent half m size (omega arith) (omega (arith, few)) in
    let slots : List ℕ = take from lent ++ (part ++ drop m (drop from lent)) in
    ap (λ (k : ℕ). with_page (row / 2) (take from lent ++ (part ++ drop k (drop from lent))) s) is
    ∙ sym (added_is_page w row bits s slots (omega (arith, few)) (λ slot small within.
    put_half w half slot bits lent part (omega arith) (omega (arith, few)) size part_size
    (λ i low. ap (λ (xs : List ℕ). get_or xs i 0) made_of ∙ part_added w half m i bits lent size (omega (arith, few)) low) small
    ∙ ap (λ (v : ℕ). v + w * half_bit bits half slot) (are slot small within)))

-- no slot near the hit: no document passed it
pub half_not_near : (w row n : ℕ) (last : Hit) (near : Bool) (bits s lent part : List ℕ) → length bits ≤ 16 → n ≡ 8 * length bits → length lent ≡ 256 → AreSlots lent s (row / 2)
    → All (λ d. d < length s) (set_bits (128 * row) bits) → part ≡ added_where w bits (half_of lent (row % 2) n) → near ≡ near_where w last.score bits part → near ≡ false
    → raised w last (set_bits (128 * row) bits) s ≡ []
half_not_near w row n last near bits s lent part few is size are within made told none =
    let half : ℕ = row % 2 in
    let m : ℕ = 8 * length bits in
    let made_of : part ≡ added_where w bits (half_of lent half m) = made ∙ ap (λ (k : ℕ). added_where w bits (half_of lent half k)) is in
    let part_size : length part ≡ m = ap (λ (xs : List ℕ). length xs) made_of
    ∙ length-map-range_with_len (λ i. get_or (half_of lent half m) i 0 + w * bit_of bits i) 0 (length (half_of lent half m))
    ∙ length-half lent half m size (omega arith) (omega (arith, few)) in
    raised-not_near w (128 * row) last bits s part part_size
    (λ i low set. ap (λ (xs : List ℕ). get_or xs i 0) made_of ∙ part_added w half m i bits lent size (omega (arith, few)) low
    ∙ ap (λ (b : ℕ). get_or lent (128 * half + i) 0 + w * b) set ∙ (let e : get_or lent (128 * half + i) 0 + w * 1 ≡ get_or s (128 * row + i) 0 + w = omega (
      arith,
      get_or-take m (drop (128 * half) lent) i 0 low,
      get_or-drop (128 * half) lent i 0,
      slot_was row m i bits s lent few refl are within low set,
    ) in
    e)) (sym told ∙ none)

-- ---- who is noted

-- the slot of a document of the bits is its score
slot_is : (row k : ℕ) (bits s lent : List ℕ) → length bits ≤ 16 → AreSlots lent s (row / 2) → All (λ d. d < length s) (set_bits (128 * row) bits)
    → k < length (set_bits (128 * row) bits) → get_or lent (get_or (set_bits (128 * row) bits) k 0 % 256) 0 ≡ get_or s (get_or (set_bits (128 * row) bits) k 0) 0
slot_is row k bits s lent few are within inside =
    let there = bit_of_number_there (128 * row) bits k inside in
    let d : ℕ = get_or (set_bits (128 * row) bits) k 0 in
    let at : 256 * (row / 2) + d % 256 ≡ d = omega (arith, there.1, there.2, few) in
    are (d % 256) (omega arith) (omega (arith, at, within k 0 inside)) ∙ ap (λ (e : ℕ). get_or s e 0) at

-- those noted by their slots are those noted by their scores
noted_by_slots : (w row : ℕ) (last : Hit) (bits s lent : List ℕ) → length bits ≤ 16 → AreSlots lent s (row / 2) → All (λ d. d < length s) (set_bits (128 * row) bits)
    → flat_map (λ d. crossed d (get_or lent (d % 256) 0 - w) (get_or lent (d % 256) 0) last) (set_bits (128 * row) bits)
    ≡ flat_map (λ d. crossed d (get_or s d 0 - w) (get_or s d 0) last) (set_bits (128 * row) bits)
noted_by_slots w row last bits s lent few are within =
    flat_map-same (λ d. crossed d (get_or s d 0 - w) (get_or s d 0) last) (λ d. crossed d (get_or lent (d % 256) 0 - w) (get_or lent (d % 256) 0) last) (set_bits (128 * row) bits)
    (λ k inside. ap (λ (v : ℕ). crossed (get_or (set_bits (128 * row) bits) k 0) (v - w) v last) (slot_is row k bits s lent few are within inside))

-- each slot has the weight
pub slots_rose : (w row : ℕ) (bits s lent : List ℕ) → length bits ≤ 16 → AreSlots lent s (row / 2) → All (λ d. d < length s) (set_bits (128 * row) bits)
    → All (λ d. w ≤ get_or s d 0) (set_bits (128 * row) bits) → All (λ d. w ≤ get_or lent (d % 256) 0) (set_bits (128 * row) bits)
slots_rose w row bits s lent few are within rose k d inside =
    let is : get_or (set_bits (128 * row) bits) k d ≡ get_or (set_bits (128 * row) bits) k 0 = get_or_default_zero (set_bits (128 * row) bits) k d inside in
    subst (λ (e : ℕ). w ≤ get_or lent (e % 256) 0) (sym is) (omega (arith, rose k 0 inside, slot_is row k bits s lent few are within inside))

-- ---- who of them is near the hit

-- the slots of the set bits have the weight
pub half_rose : (w row n : ℕ) (bits s lent : List ℕ) → length bits ≤ 16 → n ≡ 8 * length bits → AreSlots lent s (row / 2) → All (λ d. d < length s) (set_bits (128 * row) bits)
    → All (λ d. w ≤ get_or s d 0) (set_bits (128 * row) bits) → (i : ℕ) → bit_of bits i ≡ 1 → w ≤ get_or (half_of lent (row % 2) n) i 0
half_rose w row n bits s lent few is are within rose i set =
    let has = (set_bits_members (128 * row) bits i).1 set in
    let high : w ≤ get_or s (128 * row + i) 0 = subst (λ (d : ℕ). w ≤ get_or s d 0) has.2 (rose has.0 (128 * row + i) has.1) in
    elim (cases_lt i (8 * length bits)) as (λ _. w ≤ get_or (half_of lent (row % 2) n) i 0) [
      | inl low ↦ omega (arith, high, slot_was row n i bits s lent few is are within low set)
      | inr past ↦ absurd (omega (arith, set, past_bits bits i past))
    ]

module _ (w row n score : ℕ) (bits near lent : List ℕ) (few : length bits ≤ 16) (long : length near ≡ 16) (is : n ≡ 8 * length bits)
    (told : (i : ℕ) → bit_of near i ≡ cond (is_near w score (get_or (half_of lent (row % 2) n) i 0)) (bit_of bits i) 0) where
  near_documents : set_bits (128 * row) near ≡ filter (λ d. is_near w score (get_or lent (d % 256) 0)) (set_bits (128 * row) bits)
  near_documents = set_bits_picked (λ d. is_near w score (get_or lent (d % 256) 0)) (128 * row) bits near (omega (arith, few, long)) (λ i. told i ∙ elim (cases_lt i (8 * length bits)) [
    | inl low ↦
        ap (λ (v : ℕ). cond (is_near w score v) (bit_of bits i) 0)
        (get_or-take n (drop (128 * (row % 2)) lent) i 0 (omega (arith, low, is)) ∙ get_or-drop (128 * (row % 2)) lent i 0
        ∙ ap (λ (d : ℕ). get_or lent d 0) (let e : 128 * (row % 2) + i ≡ (128 * row + i) % 256 = omega (arith, low, few) in e))
    | inr past ↦
        let none : bit_of bits i ≡ 0 = past_bits bits i past in
        unset (is_near w score (get_or (half_of lent (row % 2) n) i 0)) (bit_of bits i) none
        ∙ sym (unset (is_near w score (get_or lent ((128 * row + i) % 256) 0)) (bit_of bits i) none)
  ])

  pub near_fewer : length (set_bits (128 * row) near) ≤ length (set_bits (128 * row) bits)
  near_fewer =
      let p : ℕ → Bool = λ d. is_near w score (get_or lent (d % 256) 0) in
      let docs : List ℕ = set_bits (128 * row) bits in
      omega (arith, ap (λ (xs : List ℕ). length xs) near_documents, length-filter p docs, count_by-le-length p docs)

  pub near_rose : All (λ d. w ≤ get_or lent (d % 256) 0) (set_bits (128 * row) bits) → All (λ d. w ≤ get_or lent (d % 256) 0) (set_bits (128 * row) near)
  near_rose rose =
      subst (All (λ d. w ≤ get_or lent (d % 256) 0)) (sym near_documents)
      (All-filter (λ d. is_near w score (get_or lent (d % 256) 0)) (λ d. w ≤ get_or lent (d % 256) 0) (set_bits (128 * row) bits) rose)

-- those noted of them are all that are noted by their scores
pub noted_by_near : (w row n : ℕ) (last : Hit) (bits near s lent : List ℕ) → length bits ≤ 16 → length near ≡ 16 → n ≡ 8 * length bits
    → ((i : ℕ) → bit_of near i ≡ cond (is_near w last.score (get_or (half_of lent (row % 2) n) i 0)) (bit_of bits i) 0)
    → AreSlots lent s (row / 2) → All (λ d. d < length s) (set_bits (128 * row) bits)
    → flat_map (λ d. crossed d (get_or lent (d % 256) 0 - w) (get_or lent (d % 256) 0) last) (set_bits (128 * row) near)
    ≡ flat_map (λ d. crossed d (get_or s d 0 - w) (get_or s d 0) last) (set_bits (128 * row) bits)
noted_by_near w row n last bits near s lent few long is told are within =
    ap (flat_map (λ d. crossed d (get_or lent (d % 256) 0 - w) (get_or lent (d % 256) 0) last)) (near_documents w row n last.score bits near lent few long is told)
    ∙ near_noted w last (λ d. get_or lent (d % 256) 0) (set_bits (128 * row) bits)
    ∙ noted_by_slots w row last bits s lent few are within
