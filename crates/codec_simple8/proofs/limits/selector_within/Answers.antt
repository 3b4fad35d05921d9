use Rattle.shared_lemmas.proofs.Common.{◌≡◌, ℕ, ◌+◌, ◌-◌, ◌<◌, ◌≤◌, true, false, nat_lt, List, [], ◌∷◌, ◌++◌, replicate, refl, arith, ◌||◌, nat_le, slice_index, list_all, range_with_len, nat_tests}
use Rattle.codec_simple8.specs.Simple8.{count_of}
use Rattle.codec_simple8.proofs.Tables.{at_each}
use Rattle.codec_simple8.proofs.limits.selector_within.Goals as goal

table : List ℕ
table = 15 ∷ 14 ∷ 13 ∷ 12 ∷ 11 ∷ 10 ∷ 9 ∷ (replicate 2 8 ++ (replicate 2 7 ++ (replicate 3 6 ++ (replicate 5 5 ++ (replicate 10 4 ++ (replicate 30 3 ++ (replicate 60 2 ++ (replicate 120 1 ++ 0 ∷ []))))))))

small_each : (k : ℕ) → k < 240 → slice_index table k < 16
unfolding table
small_each k from = let t = at_each (λ k. nat_lt (slice_index table k) 16) 240 refl k from in grind (arith, nat_tests)

few_each : (k : ℕ) → k < 240 → count_of (slice_index table k) ≤ k + 1
unfolding count_of table
few_each k from = let t = at_each (λ k. nat_le (count_of (slice_index table k)) (k + 1)) 240 refl k from in grind (arith, nat_tests)

least_each : (k s : ℕ) → k < 240 → s < slice_index table k → k + 1 < count_of s
unfolding count_of table
least_each k s from less =
    let small = small_each k from in
    let t = at_each (λ k. list_all (λ s. nat_le (slice_index table k) s || nat_lt (k + 1) (count_of s)) (range_with_len 0 16)) 240 refl k from in
    let u = at_each (λ s. nat_le (slice_index table k) s || nat_lt (k + 1) (count_of s)) 16 t s (omega (arith, less, small)) in
    let v : nat_le (slice_index table k) s ≡ false = grind (arith, nat_tests) in
    let w : nat_lt (k + 1) (count_of s) ≡ true = rw v at u in
    grind (arith, nat_tests)

pub invariant_of-result : goal.invariant_of-result
unfolding table
invariant_of-result c = record { few = small_each (c.args.seen - 1) (omega (arith, c.requires.some, c.requires.most)) }

pub returns-clause-few : goal.returns-clause-few
unfolding table
returns-clause-few c = omega (arith, few_each (c.args.seen - 1) (omega (arith, c.requires.some, c.requires.most)), c.requires.some)

pub returns-clause-least : goal.returns-clause-least
unfolding table
returns-clause-least c = λ s less. omega (arith, least_each (c.args.seen - 1) s (omega (arith, c.requires.some, c.requires.most)) less, c.requires.some)
