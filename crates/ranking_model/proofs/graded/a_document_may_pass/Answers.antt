-- Where document 1 gains 3 it comes before document 2.
use Rattle.std.proofs.Common.{◌∷◌, [], refl, arith}
use Rattle.ranking_model.proofs.Gains.{not_kept}
use Rattle.ranking_model.specs.Plan.{plan_of}
use Rattle.ranking_model.proofs.graded.a_document_may_pass.Goals as goal

pub returns : goal.returns
unfolding plan_of
returns c = record {
  numbers = refl;
  graded = not_kept (3 ∷ 0 ∷ 3 ∷ 0 ∷ []) (0 ∷ 3 ∷ 0 ∷ 0 ∷ []) 2 3 (λ d. d) (record { each = refl; within = (omega arith, (omega arith, (omega arith, (omega arith, tt)))) }) (λ same. absurd (omega arith));
}
