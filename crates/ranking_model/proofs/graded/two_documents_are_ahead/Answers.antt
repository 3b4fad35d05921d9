-- Where document 2 gains 1 it is a third hit.
use Rattle.std.proofs.Common.{◌∷◌, [], refl, arith}
use Rattle.ranking_model.proofs.Gains.{not_kept}
use Rattle.ranking_model.specs.Plan.{plan_of}
use Rattle.ranking_model.proofs.graded.two_documents_are_ahead.Goals as goal

pub returns-clause-three : goal.returns-clause-three
unfolding plan_of
returns-clause-three c = record {
  numbers = refl;
  graded = not_kept (9 ∷ 5 ∷ 0 ∷ []) (0 ∷ 0 ∷ 1 ∷ []) 3 1 (λ d. 1) (record { each = refl; within = (omega arith, (omega arith, (omega arith, tt))) }) (λ same. absurd (omega arith));
}
