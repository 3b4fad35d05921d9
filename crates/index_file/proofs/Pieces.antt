-- A piece of a content, read as the content is.
use Rattle.shared_lemmas.proofs.Common.{◌≡◌, ℕ, ◌+◌, ◌-◌, ◌<◌, ◌≤◌, List, length, take, drop, slice_index, slice_range, refl, ap, ◌∙◌, arith, drop-drop, drop-take, take-take, get_or-take, get_or-drop}
use Rattle.whole_files.specs.Windows.{AreFrom}
use Rattle.index_layout.specs.Bytes.{u16_in, u32_in, u64_in}
use Rattle.index_layout.specs.Reading.{head_in}

pub piece_index : (content bytes : List ℕ) (at i : ℕ) → AreFrom content at bytes → i < length bytes → slice_index bytes i ≡ slice_index content (at + i)
piece_index content bytes at i from inside =
    ap (λ (xs : List ℕ). slice_index xs i) from.front
    ∙ get_or-take (length bytes) (drop at content) i 0 inside
    ∙ get_or-drop at content i 0

-- the byte at a place and some more
index_on : (content bytes : List ℕ) (at i k : ℕ) → AreFrom content at bytes → i + k < length bytes → slice_index bytes (i + k) ≡ slice_index content (at + i + k)
index_on content bytes at i k from inside =
    let place : at + (i + k) ≡ at + i + k = omega arith in
    piece_index content bytes at (i + k) from inside ∙ ap (slice_index content) place

pub piece_u16 : (content bytes : List ℕ) (at i : ℕ) → AreFrom content at bytes → i + 2 ≤ length bytes → u16_in bytes i ≡ u16_in content (at + i)
unfolding u16_in
piece_u16 content bytes at i from inside =
    let in_0 : i < length bytes = omega (arith, inside) in
    let in_1 : i + 1 < length bytes = omega (arith, inside) in
    rw (piece_index content bytes at i from in_0, index_on content bytes at i 1 from in_1) refl

pub piece_u32 : (content bytes : List ℕ) (at i : ℕ) → AreFrom content at bytes → i + 4 ≤ length bytes → u32_in bytes i ≡ u32_in content (at + i)
unfolding u32_in
piece_u32 content bytes at i from inside =
    let in_0 : i < length bytes = omega (arith, inside) in
    let in_1 : i + 1 < length bytes = omega (arith, inside) in
    let in_2 : i + 2 < length bytes = omega (arith, inside) in
    let in_3 : i + 3 < length bytes = omega (arith, inside) in
    rw (piece_index content bytes at i from in_0, index_on content bytes at i 1 from in_1, index_on content bytes at i 2 from in_2, index_on content bytes at i 3 from in_3) refl

pub piece_u64 : (content bytes : List ℕ) (at i : ℕ) → AreFrom content at bytes → i + 8 ≤ length bytes → u64_in bytes i ≡ u64_in content (at + i)
unfolding u64_in
piece_u64 content bytes at i from inside =
    let in_0 : i < length bytes = omega (arith, inside) in
    let in_1 : i + 1 < length bytes = omega (arith, inside) in
    let in_2 : i + 2 < length bytes = omega (arith, inside) in
    let in_3 : i + 3 < length bytes = omega (arith, inside) in
    let in_4 : i + 4 < length bytes = omega (arith, inside) in
    let in_5 : i + 5 < length bytes = omega (arith, inside) in
    let in_6 : i + 6 < length bytes = omega (arith, inside) in
    let in_7 : i + 7 < length bytes = omega (arith, inside) in
    rw (
      piece_index content bytes at i from in_0,
      index_on content bytes at i 1 from in_1,
      index_on content bytes at i 2 from in_2,
      index_on content bytes at i 3 from in_3,
      index_on content bytes at i 4 from in_4,
      index_on content bytes at i 5 from in_5,
      index_on content bytes at i 6 from in_6,
      index_on content bytes at i 7 from in_7,
    ) refl

pub piece_range : (content bytes : List ℕ) (at from to : ℕ) → AreFrom content at bytes → from ≤ to → to ≤ length bytes → slice_range bytes from to ≡ slice_range content (at + from) (at + to)
piece_range content bytes at from to are order inside =
    let split : length bytes ≡ from + (length bytes - from) = omega (arith, order, inside) in
    let few : to - from ≤ length bytes - from = omega (arith, order, inside) in
    let many : to - from ≡ at + to - (at + from) = omega (arith, order) in
    ap (λ (xs : List ℕ). take (to - from) (drop from xs)) are.front
    ∙ ap (λ n. take (to - from) (drop from (take n (drop at content)))) split
    ∙ ap (take (to - from)) (drop-take from (length bytes - from) (drop at content))
    ∙ take-take (to - from) (length bytes - from) (drop from (drop at content)) few
    ∙ ap (take (to - from)) (drop-drop from at content)
    ∙ ap (λ n. take n (drop (at + from) content)) many

-- the four numbers of a head
pub record SameHead (content bytes : List ℕ) (at i : ℕ) : Type 0 where
  pub impact : u16_in bytes i ≡ u16_in content (at + i)
  pub count : u32_in bytes (i + 2) ≡ u32_in content (at + i + 2)
  pub codec : slice_index bytes (i + 6) ≡ slice_index content (at + i + 6)
  pub size : u32_in bytes (i + 7) ≡ u32_in content (at + i + 7)

pub same_head : (content bytes : List ℕ) (at i : ℕ) → AreFrom content at bytes → i + 11 ≤ length bytes → SameHead content bytes at i
same_head content bytes at i from inside =
    let two : at + (i + 2) ≡ at + i + 2 = omega arith in
    let six : at + (i + 6) ≡ at + i + 6 = omega arith in
    let seven : at + (i + 7) ≡ at + i + 7 = omega arith in
    record {
      impact = piece_u16 content bytes at i from (omega (arith, inside));
      count = piece_u32 content bytes at (i + 2) from (omega (arith, inside)) ∙ ap (u32_in content) two;
      codec = piece_index content bytes at (i + 6) from (omega (arith, inside)) ∙ ap (slice_index content) six;
      size = piece_u32 content bytes at (i + 7) from (omega (arith, inside)) ∙ ap (u32_in content) seven;
    }

pub head_moved : (content bytes : List ℕ) (at i : ℕ) → AreFrom content at bytes → i + 11 ≤ length bytes → head_in bytes i ≡ head_in content (at + i)
unfolding head_in
head_moved content bytes at i from inside =
    let same = same_head content bytes at i from inside in
    rw (same.impact, same.count, same.codec, same.size) refl
