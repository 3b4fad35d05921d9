-- A byte whose bits are set one by one.
use Rattle.shared_lemmas.proofs.Common.{◌≡◌, ◌≢◌, ℕ, zero, suc, ◌+◌, ◌-◌, ◌*◌, ◌/◌, ◌%◌, ◌^◌, ◌<◌, ◌≤◌, List, [], ◌∷◌, ◌++◌, length, get_or, take, drop, bit_or, w8, append_assoc, sym, ap, ◌∙◌, inl, inr, arith, bit_at, IsStrictlyIncreasing, cases_lt, cases_eq, take_more, take-append-drop}
use Rattle.shared_lemmas.proofs.Common.{get_or-take, get_or-drop, length-take-le, length-drop, bit_at-zero, bit_at_set_same, bit_at_set_other}
use Rattle.std.proofs.lemmas.List.{append-nil}
use Rattle.lane_kernels.specs.Block.{list_of}
use Rattle.plain_codecs.specs.Bitmap.{bit_for, bitmap_byte}
use Rattle.plain_codecs.specs.Private.Partings.{IsParted}
use Rattle.plain_codecs.proofs.BitNumbers.{list_of_more, list_of_none}
use Rattle.plain_codecs.proofs.Members.{bit_of_none, bit_of_last, bit_of_one, bit_of_others}
use Rattle.lane_kernels.proofs.Bits.{number_is}

-- the documents before a place are in the byte or before it, and the bits of those in it are set
pub record Gathered (docs : List ℕ) (place at byte : ℕ) : Type 0 where
  pub within : at ≤ length docs
  pub before : (k : ℕ) → k < at → get_or docs k 0 < 8 * (place + 1)
  pub behind : (k : ℕ) → at ≤ k → k < length docs → 8 * place ≤ get_or docs k 0
  pub bits : (v : ℕ) → v < 8 → bit_at byte v ≡ bit_for (take at docs) (8 * place + v)

pub none_gathered : (docs : List ℕ) (place first : ℕ) → IsParted docs first (8 * place) → Gathered docs place first 0
none_gathered docs place first parted =
    let within = parted.within in
    record {
      within = within;
      before = λ k h. omega (arith, parted.before k h);
      behind = parted.behind;
      bits = λ v h. bit_at-zero v ∙ sym (bit_of_none (take first docs) (8 * place + v) (λ k l is.
          let inside : k < first = omega (arith, length-take-le first docs within) in
          omega (arith, is, get_or-take first docs k 0 inside, parted.before k inside)));
    }

pub one_gathered : (docs : List ℕ) (place at byte : ℕ) → Gathered docs place at byte → at < length docs → get_or docs at 0 / 8 ≡ place → Gathered docs place (at + 1) (bit_or byte (1 * 2 ^ (get_or docs at 0 % 8) % 2 ^ 8))
one_gathered docs place at byte far inside here =
    let doc : ℕ = get_or docs at 0 in
    let bit : ℕ = doc % 8 in
    let is : doc ≡ 8 * place + bit = omega arith in
    let fits : bit < 8 = omega arith in
    record {
      within = omega arith;
      before = λ k h. elim (cases_lt k at) [
        | inl l ↦ far.before k l
        | inr g ↦ let same : k ≡ at = omega arith in omega (arith, ap (λ n. get_or docs n 0) same)
      ];
      behind = λ k h l. far.behind k (omega arith) l;
      bits = λ v h.
          let x : ℕ = 8 * place + v in
          let parts = ap (λ (xs : List ℕ). bit_for xs x) (take_more docs at 0 inside) in
          elim (cases_eq v bit) [
            | inl same ↦
                ap (bit_at (bit_or byte (1 * 2 ^ bit % 2 ^ 8))) same ∙ bit_at_set_same w8 byte bit fits
                ∙ sym (parts ∙ bit_of_last (take at docs) doc x (omega arith))
            | inr other ↦
                bit_at_set_other w8 byte bit fits v other ∙ far.bits v h
                ∙ sym (parts ∙ bit_of_others (take at docs) (doc ∷ []) x (bit_of_one doc x (λ e. other (omega arith))))
          ];
    }

rising_far : (docs : List ℕ) (i n : ℕ) → IsStrictlyIncreasing docs → i + n < length docs → get_or docs i 0 ≤ get_or docs (i + n) 0
rising_far docs i zero rising h = let same : i + 0 ≡ i = omega arith in omega (arith, ap (λ m. get_or docs m 0) same)
rising_far docs i (suc n) rising h =
    let next : i + suc n ≡ i + n + 1 = omega arith in
    omega (arith, ap (λ m. get_or docs m 0) next, rising_far docs i n rising (omega arith), rising (i + n) (omega arith))

module _ (docs : List ℕ) (place at byte : ℕ) (rising : IsStrictlyIncreasing docs) (far : Gathered docs place at byte) (other : at < length docs → get_or docs at 0 / 8 ≢ place) where
  high : (k : ℕ) → at ≤ k → k < length docs → 8 * (place + 1) ≤ get_or docs k 0
  high k h l =
      let inside : at < length docs = omega arith in
      let low = far.behind at (omega arith) inside in
      let way : at + (k - at) ≡ k = omega arith in
      omega (arith, low, rising_far docs at (k - at) rising (omega arith), ap (λ m. get_or docs m 0) way, other inside)

  pub all_parted : IsParted docs at (8 * (place + 1))
  all_parted = record { within = far.within; before = far.before; behind = high }

  pub all_gathered : byte < 256 → byte ≡ bitmap_byte docs place
  all_gathered small =
      number_is (λ v. bit_for docs (8 * place + v)) 8 byte small (λ v h.
      let x : ℕ = 8 * place + v in
      let none = bit_of_none (drop at docs) x (λ k l is.
      let inside : at + k < length docs = omega (arith, l, length-drop at docs) in
      omega (arith, is, get_or-drop at docs k 0, high (at + k) (omega arith) inside)) in
      far.bits v h ∙ sym (bit_of_others (take at docs) (drop at docs) x none) ∙ ap (λ (xs : List ℕ). bit_for xs x) (take-append-drop at docs))

-- ---- the bytes so far
pub record Built (docs : List ℕ) (place first : ℕ) (old out : List ℕ) : Type 0 where
  pub parted : IsParted docs first (8 * place)
  pub text : out ≡ old ++ list_of (bitmap_byte docs) place

pub none_built : (docs old : List ℕ) → Built docs 0 0 old old
none_built docs old =
    record {
      parted = record { within = omega arith; before = λ k h. absurd (omega arith); behind = λ k h l. omega arith };
      text = sym (ap (λ (xs : List ℕ). old ++ xs) (list_of_none (bitmap_byte docs)) ∙ append-nil old);
    }

pub one_built : (docs : List ℕ) (place first next byte : ℕ) (old out new : List ℕ) → Built docs place first old out → byte ≡ bitmap_byte docs place → IsParted docs next (8 * (place + 1)) → new ≡ out ++ byte ∷ [] → Built docs (place + 1) next old new
one_built docs place first next byte old out new far is parted more =
    let front : List ℕ = list_of (bitmap_byte docs) place in
    record {
      parted = parted;
      text = more
          ∙ ap (λ (xs : List ℕ). xs ++ byte ∷ []) far.text
          ∙ append_assoc old front (byte ∷ [])
          ∙ ap (λ n. old ++ (front ++ n ∷ [])) is
          ∙ ap (λ (xs : List ℕ). old ++ xs) (sym (list_of_more (bitmap_byte docs) place));
    }
