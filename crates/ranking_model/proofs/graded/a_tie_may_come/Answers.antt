-- Where document 0 gains 3 it ties, and comes first.
use Rattle.std.proofs.Common.{◌∷◌, [], refl, arith}
use Rattle.ranking_model.proofs.Gains.{not_kept}
use Rattle.ranking_model.specs.Plan.{plan_of}
use Rattle.ranking_model.proofs.graded.a_tie_may_come.Goals as goal

pub returns-clause-higher : goal.returns-clause-higher
unfolding plan_of
returns-clause-higher c = record {
  numbers = refl;
  graded = not_kept (0 ∷ 3 ∷ []) (3 ∷ 0 ∷ []) 1 3 (λ d. d) (record { each = refl; within = (omega arith, (omega arith, tt)) }) (λ same. absurd (omega arith));
}
