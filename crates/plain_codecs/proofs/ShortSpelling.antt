-- The four bytes that a gap of documents is put as.
use Rattle.shared_lemmas.proofs.Common.{◌≡◌, ℕ, zero, suc, ◌+◌, ◌*◌, ◌/◌, ◌%◌, ◌<◌, ◌≤◌, List, [], ◌∷◌, ◌++◌, length, get_or, take, refl, sym, ap, ◌∙◌, arith, inl, inr, w32, to_le_bytes, cases_lt, set, append_assoc, take_more_set, length-take-le}
use Rattle.std.proofs.Common.{slice_index}
use Rattle.std.proofs.lemmas.Nat.{le_bytes_4}
use Rattle.std.proofs.lemmas.List.{append-nil, length-set, take-take}
use Rattle.std.proofs.Math.Seq.{take-append-add}
use Rattle.jass_base.specs.Wire.{short_varint}
use Rattle.jass_base.proofs.GapBytes.{length_one, length_two, length_three, length_four, groups_begin}

abbrev first_apart : ℕ → ℕ
first_apart gap = gap + gap / 128 * 128

abbrev second_apart : ℕ → ℕ
second_apart gap = first_apart gap + first_apart gap / 32768 * 32768

-- the groups of seven bits, each in a byte of its own
abbrev all_apart : ℕ → ℕ
all_apart gap = second_apart gap + second_apart gap / 8388608 * 8388608

abbrev tops : ℕ → ℕ → ℕ → ℕ
tops x y z = 128 * x + 32768 * y + 8388608 * z

abbrev groups : ℕ → ℕ → ℕ → ℕ → List ℕ
groups gap x y z = (gap % 128 + 128 * x) ∷ (gap / 128 % 128 + 128 * y) ∷ (gap / 16384 % 128 + 128 * z) ∷ gap / 2097152 ∷ []

apart_is : (gap : ℕ) → all_apart gap ≡ gap % 128 + 256 * (gap / 128 % 128) + 65536 * (gap / 16384 % 128) + 16777216 * (gap / 2097152)
apart_is gap =
    let first : first_apart gap ≡ gap % 128 + 256 * (gap / 128 % 128) + 32768 * (gap / 16384) = omega arith in
    let behind_second : first_apart gap / 32768 ≡ gap / 16384 = omega (arith, first) in
    let second : second_apart gap ≡ gap % 128 + 256 * (gap / 128 % 128) + 65536 * (gap / 16384 % 128) + 8388608 * (gap / 2097152) = omega (arith, first, behind_second) in
    let behind_third : second_apart gap / 8388608 ≡ gap / 2097152 = omega (arith, second) in
    omega (arith, second, behind_third)

module _ (gap x y z : ℕ) (fits : gap < 268435456) (x_bit : x ≤ 1) (y_bit : y ≤ 1) (z_bit : z ≤ 1) where
  small : (i : ℕ) → get_or (groups gap x y z) i 0 < 256
  small zero = omega (arith, x_bit)
  small (suc zero) = omega (arith, y_bit)
  small (suc (suc zero)) = omega (arith, z_bit)
  small (suc (suc (suc zero))) = omega (arith, fits)
  small (suc (suc (suc (suc i)))) = omega arith

  in_bytes : to_le_bytes w32 (all_apart gap + tops x y z) ≡ groups gap x y z
  in_bytes = le_bytes_4 (groups gap x y z) (all_apart gap + tops x y z) refl small (omega (arith, apart_is gap))

begins : (gap size top x y z : ℕ) → gap < 268435456 → size ≡ length (short_varint gap) → top ≡ tops x y z → x ≤ 1 → y ≤ 1 → z ≤ 1
    → (gap < 128 → x ≡ 0) → (128 ≤ gap → x ≡ 1) → (gap < 16384 → y ≡ 0) → (16384 ≤ gap → y ≡ 1) → (gap < 2097152 → z ≡ 0) → (2097152 ≤ gap → z ≡ 1)
    → take size (to_le_bytes w32 (all_apart gap + top)) ≡ short_varint gap
begins gap size top x y z fits size_is top_is x_bit y_bit z_bit x0 x1 y0 y1 z0 z1 =
    ap (λ n. take n (to_le_bytes w32 (all_apart gap + top))) size_is
    ∙ ap (λ t. take (length (short_varint gap)) (to_le_bytes w32 (all_apart gap + t))) top_is
    ∙ ap (take (length (short_varint gap))) (in_bytes gap x y z fits x_bit y_bit z_bit)
    ∙ groups_begin gap x y z fits x0 x1 y0 y1 z0 z1

abbrev TOPS : List ℕ
TOPS = 0 ∷ 0 ∷ 128 ∷ 32896 ∷ 8421504 ∷ []

pub spelled_begins : (gap size : ℕ) → gap < 268435456 → size ≡ length (short_varint gap) → take size (to_le_bytes w32 (all_apart gap + slice_index TOPS size)) ≡ short_varint gap
spelled_begins gap size fits is =
    elim (cases_lt gap 128) [
      | inl a ↦ begins gap size _ 0 0 0 fits is (ap (slice_index TOPS) (is ∙ length_one gap a)) (omega arith) (omega arith) (omega arith)
          (λ l. refl) (λ h. omega (arith, h, a)) (λ l. refl) (λ h. omega (arith, h, a)) (λ l. refl) (λ h. omega (arith, h, a))
      | inr a ↦ elim (cases_lt gap 16384) [
        | inl b ↦ begins gap size _ 1 0 0 fits is (ap (slice_index TOPS) (is ∙ length_two gap a b)) (omega arith) (omega arith) (omega arith)
            (λ l. omega (arith, l, a)) (λ h. refl) (λ l. refl) (λ h. omega (arith, h, b)) (λ l. refl) (λ h. omega (arith, h, b))
        | inr b ↦ elim (cases_lt gap 2097152) [
          | inl e ↦ begins gap size _ 1 1 0 fits is (ap (slice_index TOPS) (is ∙ length_three gap b e)) (omega arith) (omega arith) (omega arith)
              (λ l. omega (arith, l, a)) (λ h. refl) (λ l. omega (arith, l, b)) (λ h. refl) (λ l. refl) (λ h. omega (arith, h, e))
          | inr e ↦ begins gap size _ 1 1 1 fits is (ap (slice_index TOPS) (is ∙ length_four gap e fits)) (omega arith) (omega arith) (omega arith)
              (λ l. omega (arith, l, a)) (λ h. refl) (λ l. omega (arith, l, b)) (λ h. refl) (λ l. omega (arith, l, e)) (λ h. refl)
        ]
      ]
    ]

-- a byte that is set behind those that were
stored : (bytes front part : List ℕ) (i j byte : ℕ) → i < length bytes → j ≡ i + 1 → take i bytes ≡ front ++ part → take j (set bytes i byte) ≡ front ++ (part ++ byte ∷ [])
stored bytes front part i j byte inside next is =
    ap (λ n. take n (set bytes i byte)) next ∙ take_more_set bytes i byte inside ∙ ap (λ (xs : List ℕ). xs ++ byte ∷ []) is ∙ append_assoc front part (byte ∷ [])

abbrev stored_four : List ℕ → ℕ → ℕ → ℕ → ℕ → ℕ → List ℕ
stored_four bytes at a b e f = set (set (set (set bytes at a) (at + 1) b) (at + 2) e) (at + 3) f

four_stored : (bytes : List ℕ) (at a b e f : ℕ) → at + 4 ≤ length bytes → take (at + 4) (stored_four bytes at a b e f) ≡ take at bytes ++ (a ∷ b ∷ e ∷ f ∷ [])
four_stored bytes at a b e f room =
    let front : List ℕ = take at bytes in
    let one : List ℕ = set bytes at a in
    let two : List ℕ = set one (at + 1) b in
    let three : List ℕ = set two (at + 2) e in
    let one_long : length one ≡ length bytes = length-set bytes at a in
    let two_long : length two ≡ length one = length-set one (at + 1) b in
    let three_long : length three ≡ length two = length-set two (at + 2) e in
    stored three front (a ∷ b ∷ e ∷ []) (at + 3) (at + 4) f (omega (arith, room, one_long, two_long, three_long)) (omega arith)
    (stored two front (a ∷ b ∷ []) (at + 2) (at + 3) e (omega (arith, room, one_long, two_long)) (omega arith)
    (stored one front (a ∷ []) (at + 1) (at + 2) b (omega (arith, room, one_long)) (omega arith)
    (stored bytes front [] at (at + 1) a (omega (arith, room)) refl (sym (append-nil front)))))

four_are : (four : List ℕ) → length four ≡ 4 → (get_or four 0 0 ∷ get_or four 1 0 ∷ get_or four 2 0 ∷ get_or four 3 0 ∷ []) ≡ four
four_are (a ∷ b ∷ e ∷ f ∷ []) is = refl
four_are [] is = absurd (omega (arith, is))
four_are (a ∷ []) is = absurd (omega (arith, is))
four_are (a ∷ b ∷ []) is = absurd (omega (arith, is))
four_are (a ∷ b ∷ e ∷ []) is = absurd (omega (arith, is))
four_are (a ∷ b ∷ e ∷ f ∷ g ∷ rest) is = absurd (omega (arith, is))

-- four bytes put behind the first `at`, which begin with a part
pub part_behind : (bytes four part : List ℕ) (at size : ℕ) → at + 4 ≤ length bytes → length four ≡ 4 → size ≤ 4 → take size four ≡ part
    → take (at + size) (stored_four bytes at (get_or four 0 0) (get_or four 1 0) (get_or four 2 0) (get_or four 3 0)) ≡ take at bytes ++ part
part_behind bytes four part at size room long few is =
    let front : List ℕ = take at bytes in
    let new : List ℕ = stored_four bytes at (get_or four 0 0) (get_or four 1 0) (get_or four 2 0) (get_or four 3 0) in
    let here : length front ≡ at = length-take-le at bytes (omega (arith, room)) in
    sym (take-take (at + size) (at + 4) new (omega (arith, few)))
    ∙ ap (take (at + size)) (four_stored bytes at (get_or four 0 0) (get_or four 1 0) (get_or four 2 0) (get_or four 3 0) room)
    ∙ ap (λ (xs : List ℕ). take (at + size) (front ++ xs)) (four_are four long)
    ∙ ap (λ n. take (n + size) (front ++ four)) (sym here)
    ∙ take-append-add front four size
    ∙ ap (λ (xs : List ℕ). front ++ xs) is
