-- Where document 0 gains 1 it is a hit.
use Rattle.std.proofs.Common.{◌∷◌, [], refl, arith}
use Rattle.ranking_model.proofs.Gains.{not_kept}
use Rattle.ranking_model.specs.Plan.{plan_of}
use Rattle.ranking_model.proofs.graded.each_document_may_come.Goals as goal

pub returns : goal.returns
unfolding plan_of
returns c = record {
  numbers = refl;
  graded = not_kept (0 ∷ 0 ∷ 0 ∷ 0 ∷ []) (1 ∷ 0 ∷ 0 ∷ 0 ∷ []) 4 6 (λ d. 1) (record { each = refl; within = (omega arith, (omega arith, (omega arith, (omega arith, tt)))) }) (λ same. absurd (omega arith));
}
