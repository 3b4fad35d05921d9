-- Where document 1 gains 2 it comes first; document 2 alone gains at most 7, which is below both.
use Rattle.std.proofs.Common.{◌∷◌, [], zero, suc, refl, arith}
use Rattle.ranking_model.specs.Finality.{IsSettledWithin}
use Rattle.ranking_model.proofs.Gains.{not_kept}
use Rattle.ranking_model.proofs.graded.limits_settle_more_than_a_bound.Goals as goal

settled : IsSettledWithin (9 ∷ 8 ∷ 0 ∷ []) 1 (0 ∷ 0 ∷ 7 ∷ [])
settled [] a = absurd a.within
settled (f ∷ []) a = absurd a.within.1
settled (f ∷ g ∷ []) a = absurd a.within.1.1
settled (f ∷ g ∷ h ∷ i ∷ gains) a = absurd a.within.1.1.1
settled (suc f ∷ g ∷ h ∷ []) a = absurd (let few = a.within.0 in omega arith)
settled (zero ∷ suc g ∷ h ∷ []) a = absurd (let few = a.within.1.0 in omega arith)
settled (zero ∷ zero ∷ zero ∷ []) a = refl
settled (zero ∷ zero ∷ suc zero ∷ []) a = refl
settled (zero ∷ zero ∷ suc (suc zero) ∷ []) a = refl
settled (zero ∷ zero ∷ suc (suc (suc zero)) ∷ []) a = refl
settled (zero ∷ zero ∷ suc (suc (suc (suc zero))) ∷ []) a = refl
settled (zero ∷ zero ∷ suc (suc (suc (suc (suc zero)))) ∷ []) a = refl
settled (zero ∷ zero ∷ suc (suc (suc (suc (suc (suc zero))))) ∷ []) a = refl
settled (zero ∷ zero ∷ suc (suc (suc (suc (suc (suc (suc zero)))))) ∷ []) a = refl
settled (zero ∷ zero ∷ suc (suc (suc (suc (suc (suc (suc (suc h))))))) ∷ []) a = absurd (let few = a.within.1.1.0 in omega arith)

pub returns-clause-bound : goal.returns-clause-bound
returns-clause-bound c = not_kept (9 ∷ 8 ∷ 0 ∷ []) (0 ∷ 2 ∷ 0 ∷ []) 1 7 (λ d. d) (record { each = refl; within = (omega arith, (omega arith, (omega arith, tt))) }) (λ same. absurd (omega arith))

pub returns-clause-limits : goal.returns-clause-limits
returns-clause-limits c = settled
