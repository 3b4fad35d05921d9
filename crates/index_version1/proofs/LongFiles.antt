-- A file whose front is read: a longer one is refused whatever it holds.
use Rattle.shared_lemmas.proofs.Common.{◌≡◌, ◌<◌, ◌^◌, ℕ, List, length, take, true, nat_lt, Result, Err, ap, sym, ◌∙◌, refl, arith, inl, inr, cases_lt, take_all, length-take-le}
use Rattle.index_version1.proofs.Below.{IndexData, OpenRefusal, Limit}
use Rattle.index_version1.specs.Reading.{front1_checks, read_front1, read_file1, read_index1}

abbrev too_long : Result IndexData OpenRefusal
too_long = Err (record { at = 2 ^ 32; why = Limit })

long_refused : (bytes : List ℕ) → 2 ^ 32 < length bytes → read_index1 bytes ≡ too_long
unfolding read_index1 read_file1 read_front1 front1_checks
long_refused bytes long = let over : nat_lt (2 ^ 32) (length bytes) ≡ true = grind (arith) in rw over refl

pub front_tells : (bytes : List ℕ) → read_index1 (take 4294967297 bytes) ≡ read_index1 bytes
front_tells bytes = elim (cases_lt (2 ^ 32) (length bytes)) [
  | inl l ↦ (let e = length-take-le 4294967297 bytes (omega (arith, l)) in long_refused (take 4294967297 bytes) (omega (arith, e)) ∙ sym (long_refused bytes l))
  | inr g ↦ ap read_index1 (take_all 4294967297 bytes (omega (arith, g)))
]
