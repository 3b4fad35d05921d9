use Rattle.shared_lemmas.proofs.Common.{◌≡◌, ℕ, ◌-◌, ◌<◌, ◌^◌, nat_eq, List, [], ◌∷◌, replicate, refl, arith, slice_index, number_l, nat_tests}
use Rattle.codec_simple8.specs.Simple8.{count_of, width_of}
use Rattle.codec_simple8.proofs.Tables.{at_each}
use Rattle.codec_simple8.proofs.selector.Selector.wider.Goals as goal

table : List ℕ
table = 0 ∷ 0 ∷ 1152921504606846975 ∷ 768614336404564650 ∷ 658812288346769700 ∷ 614891469123651720 ∷ 595056260442243600 ∷ 585610922974906400 ∷ 36312488334073920 ∷ 36170086419038336 ∷ 865536378825081600 ∷ 864902286239861760 ∷ 1008837103796121600 ∷ 1116893772740788224 ∷ 1151795605772697600 ∷ 1152921503533105152 ∷ []

wider : (s : ℕ) → s < 16 → slice_index table s ≡ number_l (2 ^ width_of s) (replicate (count_of s) (2 ^ width_of s - 2 ^ width_of (s - 1)))
unfolding count_of width_of table
wider s to =
    let t = at_each (λ s. nat_eq (slice_index table s) (number_l (2 ^ width_of s) (replicate (count_of s) (2 ^ width_of s - 2 ^ width_of (s - 1))))) 16 refl s to in
    grind (arith, nat_tests)

pub returns : goal.returns
unfolding table
returns c = wider c.args.self.number c.args.self.few
