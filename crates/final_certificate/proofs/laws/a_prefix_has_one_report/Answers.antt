use Rattle.std.proofs.Common.{refl, ap, ◌∙◌}
use Rattle.ranking_model.specs.Scores.{scores_after, bound_after}
use Rattle.ranking_model.specs.Report.{report_of}
use Rattle.final_certificate.proofs.Deciding.{graded_standing}
use Rattle.final_certificate.proofs.laws.a_prefix_has_one_report.Goals as goal

pub returns-clause-report : goal.returns-clause-report
returns-clause-report c = λ n k plan. record { numbers = refl; graded = graded_standing (scores_after n plan) k (bound_after n plan) }

pub returns-clause-one : goal.returns-clause-one
returns-clause-one c = λ n k plan report is.
    is.numbers ∙ ap (report_of n plan) (c.the_grade_is_one.ensures.one (scores_after n plan) k (bound_after n plan) report.grade _ is.graded (graded_standing (scores_after n plan) k (bound_after n plan)))
