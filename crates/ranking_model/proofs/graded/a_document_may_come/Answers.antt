-- Where document 3 gains 1 it is a fourth hit.
use Rattle.std.proofs.Common.{◌∷◌, [], refl, arith}
use Rattle.ranking_model.proofs.Gains.{not_kept}
use Rattle.ranking_model.specs.Plan.{plan_of}
use Rattle.ranking_model.proofs.graded.a_document_may_come.Goals as goal

pub returns : goal.returns
unfolding plan_of
returns c = record {
  numbers = refl;
  graded = not_kept (3 ∷ 2 ∷ 3 ∷ 0 ∷ []) (0 ∷ 0 ∷ 0 ∷ 1 ∷ []) 4 1 (λ d. 1) (record { each = refl; within = (omega arith, (omega arith, (omega arith, (omega arith, tt)))) }) (λ same. absurd (omega arith));
}
