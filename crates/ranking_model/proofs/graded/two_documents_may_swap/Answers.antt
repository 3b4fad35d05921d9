-- Both documents stay hits; where document 0 gains 1 it comes first.
use Rattle.shared_lemmas.proofs.Common.{◌∷◌, [], zero, suc, refl, arith, IsPermutation-refl, IsPermutation-reverse}
use Rattle.ranking_model.specs.Finality.{IsKept}
use Rattle.ranking_model.specs.Plan.{plan_of}
use Rattle.ranking_model.proofs.graded.two_documents_may_swap.Goals as goal

kept : IsKept (2 ∷ 3 ∷ []) 2 1
kept [] a = absurd (omega arith)
kept (g ∷ []) a = absurd (omega arith)
kept (zero ∷ zero ∷ []) a = IsPermutation-refl (1 ∷ 0 ∷ [])
kept (suc zero ∷ zero ∷ []) a = IsPermutation-reverse (1 ∷ 0 ∷ [])
kept (zero ∷ suc zero ∷ []) a = IsPermutation-refl (1 ∷ 0 ∷ [])
kept (suc zero ∷ suc zero ∷ []) a = IsPermutation-refl (1 ∷ 0 ∷ [])
kept (suc (suc g) ∷ h ∷ []) a = absurd (let few = a.within.0 in omega arith)
kept (g ∷ suc (suc h) ∷ []) a = absurd (let few = a.within.1.0 in omega arith)
kept (g ∷ h ∷ i ∷ gains) a = absurd (omega arith)

pub returns : goal.returns
unfolding plan_of
returns c = record {
  numbers = refl;
  graded = (kept, λ settled. let swapped = settled (1 ∷ 0 ∷ []) (record { each = refl; within = (omega arith, (omega arith, tt)) }) in cc);
}
