-- The reports of two small queries, at a budget of 2 postings and then of all.
use Rattle.std.proofs.Common.{List, ◌∷◌, [], refl, arith}
use Rattle.jass_base.specs.declared.answer.Budget.{Budget}
use Rattle.jass_base.specs.declared.answer.Budget.TheVariants.{Postings, All}
use Rattle.jass_base.specs.declared.answer.Grade.TheVariants.{Final, Open}
use Rattle.ranking_model.specs.Plan.{plan_of}
use Rattle.ranking_model.specs.Report.{IsReport}
use Rattle.ranking_model.specs.Search.{AreReports}
use Rattle.ranking_model.specs.Examples.{report, cat_dog, nothing_known}
use Rattle.ranking_model.proofs.Gains.{settled_without_gains, not_kept}

abbrev pub two_budgets : List Budget
two_budgets = Postings 2 ∷ All ∷ []

-- where document 1 gains 3 it comes before document 2; where all is scored nothing is gained
pub cat_dog_reports : AreReports cat_dog 2 two_budgets (report 2 2 4 3 2 3 Open ∷ report 5 4 4 1 0 0 Final ∷ [])
unfolding plan_of
cat_dog_reports = (
  record {
    numbers = refl;
    graded = not_kept (3 ∷ 0 ∷ 3 ∷ 0 ∷ []) (0 ∷ 3 ∷ 0 ∷ 0 ∷ []) 2 3 (λ d. d) (record { each = refl; within = (omega arith, (omega arith, (omega arith, (omega arith, tt)))) }) (λ same. absurd (omega arith));
  },
  (
    record { numbers = refl; graded = settled_without_gains (3 ∷ 3 ∷ 3 ∷ 1 ∷ []) 2 },
    tt,
  ),
)

pub no_reports : AreReports nothing_known 2 two_budgets (report 0 0 0 0 0 0 Final ∷ report 0 0 0 0 0 0 Final ∷ [])
unfolding plan_of
no_reports = (none, (none, tt)) where
  none : IsReport 0 nothing_known 2 (report 0 0 0 0 0 0 Final)
  none = record { numbers = refl; graded = settled_without_gains (0 ∷ 0 ∷ 0 ∷ 0 ∷ []) 2 }
