-- Texts of visible characters of ASCII.
use Rattle.shared_lemmas.proofs.Common.{◌≡◌, ◌<◌, ◌≤◌, ◌+◌, ◌-◌, ℕ, true, false, not, ◌&&◌, ◌==◌, List, [], ◌∷◌, length, take, drop, All, nat_lt, get_or, ap, sym, subst, ◌∙◌, refl, arith, inl, inr, list_all, is_utf8, cases_lt, nat_tests, get_or-take, get_or-drop, length-take-le, length-drop}
use Rattle.shared_lemmas.proofs.Common.{drop-take, All-head, All-tail, All-take, All-from_get_or, All-get_or, is_utf8-from_IsUtf8, IsUtf8-from_ascii, IsAscii-from_all}
use Rattle.std.proofs.Common.{length-take, take-take}
use Rattle.index_layout.specs.Reading.{is_name_text}
use Rattle.index_file.specs.Private.Plain.{IsPlain}

-- two fronts, or a front and a part behind it, that reach over one another
pub plain_over : (bytes : List ℕ) (n from size : ℕ) → from ≤ n → from + size ≡ length bytes → All IsPlain (take n bytes) → All IsPlain (take size (drop from bytes)) → All IsPlain bytes
plain_over bytes n from size reach whole front back = All-from_get_or IsPlain bytes 0 (λ i inside. elim (cases_lt i from) [
  | inl l ↦ subst IsPlain (get_or-take n bytes i 0 (omega (arith, l, reach))) (All-get_or IsPlain (take n bytes) i 0 (below_take i n inside (omega (arith, l, reach))) front)
  | inr g ↦ (
      let k = i - from in
      let low : k < size = omega (arith, inside, whole, g) in
      let at : from + k ≡ i = omega (arith, g) in
      let here : IsPlain (get_or (take size (drop from bytes)) k 0) = All-get_or IsPlain (take size (drop from bytes)) k 0 (within k low) back in
      subst IsPlain (get_or-take size (drop from bytes) k 0 low ∙ get_or-drop from bytes k 0 ∙ ap (λ j. get_or bytes j 0) at) here)
])
  where
    below_take : (i n : ℕ) → i < length bytes → i < n → i < length (take n bytes)
    below_take i n inside low = (let e = length-take n bytes in omega (arith, e, inside, low))

    within : (k : ℕ) → k < size → k < length (take size (drop from bytes))
    within k low = (let e = length-take size (drop from bytes) in let f = length-drop from bytes in omega (arith, e, f, low, whole))

pub plain_next : (bytes : List ℕ) (at : ℕ) → at + 8 ≤ length bytes → All IsPlain (take at bytes) → All IsPlain (take 8 (drop at bytes)) → All IsPlain (take (at + 8) bytes)
plain_next bytes at room front back = plain_over (take (at + 8) bytes) at at 8 (omega arith) (sym (length-take-le (at + 8) bytes room))
    (subst (All IsPlain) (sym (take-take at (at + 8) bytes (omega arith))) front)
    (subst (All IsPlain) (sym (ap (take 8) (drop-take at 8 bytes))) (subst (All IsPlain) (sym (take-take 8 8 (drop at bytes) (omega arith))) back))

pub plain_text : (bytes : List ℕ) → All IsPlain bytes → is_utf8 bytes ≡ true
plain_text bytes plain = is_utf8-from_IsUtf8 bytes (IsUtf8-from_ascii bytes (IsAscii-from_all bytes (λ i d inside. (let p = plain i d inside in omega (arith, p.1)))))

visible : (bytes : List ℕ) → All IsPlain bytes → list_all (λ b. nat_lt 32 b && not (b == 127)) bytes ≡ true
visible [] plain = refl
visible (b ∷ bytes) plain =
    let here = All-head IsPlain b bytes plain in
    let e : nat_lt 32 b ≡ true = grind (arith, nat_tests, here.0) in
    let f : (b == 127) ≡ false = grind (arith, nat_tests, here.1) in
    rw (e, f) (visible bytes (All-tail IsPlain b bytes plain))

pub plain_name : (bytes : List ℕ) → All IsPlain bytes → is_name_text bytes ≡ true
plain_name bytes plain = rw (plain_text bytes plain) (visible bytes plain)

pub plain_front : (bytes : List ℕ) (n at : ℕ) → n ≤ at → All IsPlain (take at bytes) → All IsPlain (take n bytes)
plain_front bytes n at less front = subst (All IsPlain) (take-take n at bytes less) (All-take IsPlain n (take at bytes) front)
