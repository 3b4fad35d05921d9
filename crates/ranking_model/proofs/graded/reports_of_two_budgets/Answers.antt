use Rattle.ranking_model.proofs.Searched.{cat_dog_reports}
use Rattle.ranking_model.specs.Plan.{plan_of}
use Rattle.ranking_model.proofs.graded.reports_of_two_budgets.Goals as goal

pub returns : goal.returns
unfolding plan_of
returns c = cat_dog_reports
