use Rattle.shared_lemmas.proofs.Common.{◌≡◌, ℕ, ◌+◌, ◌-◌, ◌<◌, ◌≤◌, ◌^◌, true, false, nat_lt, List, ◌∷◌, ◌++◌, replicate, refl, arith, ◌||◌, nat_le, slice_index, list_all, range_with_len, nat_tests}
use Rattle.codec_simple8.specs.Simple8.{count_of, width_of}
use Rattle.codec_simple8.proofs.Tables.{at_each}
use Rattle.codec_simple8.proofs.limits.limit_behind.Goals as goal

table : List ℕ
table = 1073741824 ∷ 1048576 ∷ 32768 ∷ 4096 ∷ 1024 ∷ 256 ∷ 128 ∷ (replicate 2 64 ++ (replicate 2 32 ++ (replicate 3 16 ++ (replicate 5 8 ++ (replicate 10 4 ++ (replicate 30 2 ++ replicate 180 1))))))

within_each : (k s : ℕ) → k < 239 → s < 16 → count_of s ≤ k + 2 → slice_index table k ≤ 2 ^ width_of s
unfolding count_of width_of table
within_each k s from small few =
    let t = at_each (λ k. list_all (λ s. nat_lt (k + 2) (count_of s) || nat_le (slice_index table k) (2 ^ width_of s)) (range_with_len 0 16)) 239 refl k from in
    let u = at_each (λ s. nat_lt (k + 2) (count_of s) || nat_le (slice_index table k) (2 ^ width_of s)) 16 t s small in
    let v : nat_lt (k + 2) (count_of s) ≡ false = grind (arith, nat_tests) in
    let w : nat_le (slice_index table k) (2 ^ width_of s) ≡ true = rw v at u in
    grind (arith, nat_tests)

past_each : (k s : ℕ) → k < 239 → s < 16 → k + 1 < count_of s → 2 ^ width_of s ≤ slice_index table k
unfolding count_of width_of table
past_each k s from small more =
    let t = at_each (λ k. list_all (λ s. nat_le (count_of s) (k + 1) || nat_le (2 ^ width_of s) (slice_index table k)) (range_with_len 0 16)) 239 refl k from in
    let u = at_each (λ s. nat_le (count_of s) (k + 1) || nat_le (2 ^ width_of s) (slice_index table k)) 16 t s small in
    let v : nat_le (count_of s) (k + 1) ≡ false = grind (arith, nat_tests) in
    let w : nat_le (2 ^ width_of s) (slice_index table k) ≡ true = rw v at u in
    grind (arith, nat_tests)

pub returns-clause-within : goal.returns-clause-within
unfolding table
returns-clause-within c = λ s small few. within_each (c.args.seen - 1) s (omega (arith, c.requires.some, c.requires.more)) small (omega (arith, few, c.requires.some))

pub returns-clause-past : goal.returns-clause-past
unfolding table
returns-clause-past c = λ s small more. past_each (c.args.seen - 1) s (omega (arith, c.requires.some, c.requires.more)) small (omega (arith, more, c.requires.some))
