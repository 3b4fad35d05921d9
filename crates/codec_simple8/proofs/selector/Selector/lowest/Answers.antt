use Rattle.shared_lemmas.proofs.Common.{◌≡◌, ℕ, ◌<◌, ◌≤◌, ◌^◌, true, false, nat_eq, nat_lt, List, [], ◌∷◌, replicate, refl, arith, ◌||◌, slice_index, number_l, nat_tests}
use Rattle.codec_simple8.specs.Simple8.{count_of, width_of}
use Rattle.codec_simple8.proofs.Tables.{at_each}
use Rattle.codec_simple8.proofs.selector.Selector.lowest.Goals as goal

table : List ℕ
table = 0 ∷ 0 ∷ 1152921504606846975 ∷ 384307168202282325 ∷ 164703072086692425 ∷ 76861433640456465 ∷ 37191016277640225 ∷ 18300341342965825 ∷ 567382630219905 ∷ 282578800148737 ∷ 1127000493261825 ∷ 281543712968705 ∷ 35185445863425 ∷ 1099512676353 ∷ 1073741825 ∷ 1 ∷ []

lowest : (s : ℕ) → 2 ≤ s → s < 16 → slice_index table s ≡ number_l (2 ^ width_of s) (replicate (count_of s) 1)
unfolding count_of width_of table
lowest s from to =
    let t = at_each (λ s. nat_lt s 2 || nat_eq (slice_index table s) (number_l (2 ^ width_of s) (replicate (count_of s) 1))) 16 refl s to in
    let u : nat_lt s 2 ≡ false = grind (arith, nat_tests) in
    let v : nat_eq (slice_index table s) (number_l (2 ^ width_of s) (replicate (count_of s) 1)) ≡ true = rw u at t in
    grind (arith, nat_tests)

pub returns : goal.returns
unfolding table
returns c = lowest c.args.self.number c.requires c.args.self.few
