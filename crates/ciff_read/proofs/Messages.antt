-- A message that is read from its length.
use Rattle.shared_lemmas.proofs.Common.{◌≡◌, ℕ, ◌+◌, ◌-◌, ◌^◌, ◌<◌, ◌≤◌, true, false, List, length, take, drop, Ok, Err, refl, sym, ap, subst, ◌∙◌, arith, nat_lt, slice_range, nat_tests, length-drop, drop-drop, drop-take}
use Rattle.ciff_read.proofs.Below.{WireFault, varint_at}
use Rattle.ciff_read.specs.declared.refusal.CiffWhy.TheVariants.{Cut, Limit}
use Rattle.ciff_read.specs.declared.refusal.CiffFault.{CiffFault}
use Rattle.ciff_read.specs.declared.refusal.CiffFault.TheVariants as faults
use Rattle.ciff_read.specs.Reading.{message_at, body_at}
use Rattle.ciff_read.specs.Refusals.{why_of, placed, Fails}

-- the bytes from a place on, up to a later place
pub body_there : (bytes : List ℕ) (from end : ℕ) → from ≤ end → drop from (take end bytes) ≡ slice_range bytes from end
body_there bytes from end order =
    let split : end ≡ from + (end - from) = omega arith in
    ap (λ n. drop from (take n bytes)) split ∙ drop-take from (end - from) bytes

pub message_bad : (at : ℕ) (s : List ℕ) (fault : WireFault) (answer : CiffFault) → varint_at s ≡ Err fault.why → fault.at ≡ at → answer ≡ faults.Refused (record { at = fault.at; why = why_of fault.why }) → Fails answer (message_at at s)
unfolding message_at
message_bad at s fault answer is place says =
    let bad : message_at at s ≡ Err (record { at = fault.at; why = why_of fault.why }) = rw (is, place) refl in
    subst (λ (e : CiffFault). Fails e (message_at at s)) (sym says) bad

module _ (bytes : List ℕ) (at from size : ℕ) (is : varint_at (drop at bytes) ≡ Ok (size, drop from bytes)) (before : at < from) (within : from ≤ length bytes) where
  sized : message_at at (drop at bytes) ≡ placed at (body_at at from size (drop from bytes))
  unfolding message_at
  sized =
      let place : at + (length (drop at bytes) - length (drop from bytes)) ≡ from = omega (arith, length-drop at bytes, length-drop from bytes) in
      rw is (ap (λ n. placed at (body_at at n size (drop from bytes))) place)

  pub message_over : 2 ^ 32 < from + size → message_at at (drop at bytes) ≡ Err (record { at = at; why = Limit })
  message_over over =
      let test : nat_lt (2 ^ 32) (from + size) ≡ true = grind (arith, nat_tests) in
      sized ∙ rw test refl

  pub message_cut : from + size ≤ 2 ^ 32 → length bytes - from < size → message_at at (drop at bytes) ≡ Err (record { at = at; why = Cut })
  message_cut fits short =
      let test : nat_lt (2 ^ 32) (from + size) ≡ false = grind (arith, nat_tests) in
      let left : length (drop from bytes) ≡ length bytes - from = length-drop from bytes in
      let cut : nat_lt (length (drop from bytes)) size ≡ true = grind (arith, nat_tests) in
      sized ∙ rw (test, cut) refl

  pub message_there : from + size ≤ 2 ^ 32 → size ≤ length bytes - from → message_at at (drop at bytes) ≡ Ok (record { from = from; body = slice_range bytes from (from + size); rest = drop (from + size) bytes })
  message_there fits inside =
      let test : nat_lt (2 ^ 32) (from + size) ≡ false = grind (arith, nat_tests) in
      let left : length (drop from bytes) ≡ length bytes - from = length-drop from bytes in
      let there : nat_lt (length (drop from bytes)) size ≡ false = grind (arith, nat_tests) in
      let count : from + size - from ≡ size = omega arith in
      sized ∙ rw (test, there, count, drop-drop size from bytes) refl
