-- Where document 1 gains 2 it comes first.
use Rattle.std.proofs.Common.{◌∷◌, [], refl, arith}
use Rattle.ranking_model.proofs.Gains.{not_kept}
use Rattle.ranking_model.specs.Plan.{plan_of}
use Rattle.ranking_model.proofs.graded.a_final_answer_opens_again.Goals as goal

pub returns-clause-second : goal.returns-clause-second
unfolding plan_of
returns-clause-second c = record {
  numbers = refl;
  graded = not_kept (9 ∷ 8 ∷ 0 ∷ []) (0 ∷ 2 ∷ 0 ∷ []) 1 7 (λ d. d) (record { each = refl; within = (omega arith, (omega arith, (omega arith, tt))) }) (λ same. absurd (omega arith));
}
