-- Bytes that are held in a part of a buffer.
use Rattle.shared_lemmas.proofs.Common.{◌≡◌, ℕ, ◌+◌, ◌-◌, ◌<◌, ◌≤◌, List, ◌++◌, length, take, drop, refl, ap, sym, ◌∙◌, arith, Option, slice_range, Consumes, IsAtEnd, drop-drop, drop-take, length-take, length-drop, take-take, length-paste, take-paste, take-put_mid, paste, take-append-add}
use borrow.Rule.Slice.PartMut.{put_mid}
use Rattle.feed_lines.specs.Private.Reads.{ReadsSome}

-- a part without its front
pub without_front : (xs : List ℕ) (from to count : ℕ) → count ≤ length (slice_range xs from to) → slice_range xs (from + count) to ≡ drop count (slice_range xs from to)
without_front xs from to count within =
    let rest = to - (from + count) in
    let split : to - from ≡ count + rest = omega (arith, within, length-take (to - from) (drop from xs)) in
    ap (take rest) (sym (drop-drop count from xs)) ∙ sym (drop-take count rest (drop from xs)) ∙ ap (λ n. drop count (take n (drop from xs))) (sym split)

-- a part moved to the front, with what was read behind it
moved_and_read : (xs ys read : List ℕ) (from to k n : ℕ) → from ≤ to → to ≤ length xs → n ≤ length read → ys ≡ paste xs 0 (drop from xs) (to - from) → take ((to - from) + n) (put_mid (to - from) k ys read) ≡ slice_range xs from to ++ take n read
moved_and_read xs ys read from to k n ordered within short are =
    let len = to - from in
    let whole = put_mid len k ys read in
    let zero_more : len ≡ 0 + len = omega arith in
    let behind : len ≤ length (drop from xs) = omega (arith, ordered, within, length-drop from xs) in
    let size : length ys ≡ length xs = ap length are ∙ length-paste xs 0 (drop from xs) len (omega (arith, ordered, within)) behind in
    let front : take len ys ≡ slice_range xs from to = ap (take len) are ∙ ap (λ m. take m (paste xs 0 (drop from xs) len)) zero_more ∙ take-paste xs 0 (drop from xs) len (omega arith) behind in
    let all : take (len + length read) whole ≡ take len ys ++ read = take-put_mid len k ys read (len + length read) refl (omega (arith, size, ordered, within)) in
    let counted : length (take len ys) ≡ len = omega (arith, length-take len ys, size, ordered, within) in
    sym (take-take (len + n) (len + length read) whole (omega (arith, short)))
    ∙ ap (take (len + n)) all
    ∙ ap (λ m. take (m + n) (take len ys ++ read)) (sym counted)
    ∙ take-append-add (take len ys) read n
    ∙ ap (λ (zs : List ℕ). zs ++ take n read) front

pub read_behind : (before after : Option (List ℕ)) (xs ys held read : List ℕ) (from to k n : ℕ) → from ≤ to → to ≤ length xs → held ≡ slice_range xs from to
    → ys ≡ paste xs 0 (drop from xs) (to - from) → 0 < length read → n ≤ length read → Consumes before after (take n read) → (n ≡ 0 → 0 < length read → IsAtEnd after)
    → ReadsSome before after held (slice_range (put_mid (to - from) k ys read) 0 ((to - from) + n)) n
read_behind before after xs ys held read from to k n ordered within is are some short consumed end = let whole : (to - from) + n - 0 ≡ (to - from) + n = omega arith in record {
  taken = take n read;
  size = omega (arith, length-take n read, short);
  consumed = consumed;
  bytes = ap (λ m. take m (put_mid (to - from) k ys read)) whole ∙ moved_and_read xs ys read from to k n ordered within short are ∙ ap (λ (zs : List ℕ). zs ++ take n read) (sym is);
  end = λ none. end none some;
}
