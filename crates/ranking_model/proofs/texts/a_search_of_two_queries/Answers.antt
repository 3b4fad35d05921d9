-- Each number has one digit, and the rest computes.
use Rattle.shared_lemmas.proofs.Common.{◌∷◌, [], refl, arith, decimal_digit}
use Rattle.jass_base.specs.declared.answer.Grade.TheVariants.{Final, Open}
use Rattle.ranking_model.specs.Examples.{report}
use Rattle.ranking_model.proofs.Searched.{cat_dog_reports, no_reports}
use Rattle.ranking_model.specs.Plan.{plan_of}
use Rattle.ranking_model.proofs.texts.a_search_of_two_queries.Goals as goal

pub returns-clause-run : goal.returns-clause-run
unfolding plan_of
returns-clause-run c = rw (decimal_digit 3 (omega arith), decimal_digit 2 (omega arith), decimal_digit 1 (omega arith)) refl

pub returns-clause-reports : goal.returns-clause-reports
unfolding plan_of
returns-clause-reports c = record {
  reports = (report 2 2 4 3 2 3 Open ∷ report 5 4 4 1 0 0 Final ∷ []) ∷ (report 0 0 0 0 0 0 Final ∷ report 0 0 0 0 0 0 Final ∷ []) ∷ [];
  each = (cat_dog_reports, (no_reports, tt));
  is = rw (decimal_digit 5 (omega arith), decimal_digit 4 (omega arith), decimal_digit 3 (omega arith), decimal_digit 2 (omega arith), decimal_digit 1 (omega arith), decimal_digit 0 (omega arith)) refl;
}
