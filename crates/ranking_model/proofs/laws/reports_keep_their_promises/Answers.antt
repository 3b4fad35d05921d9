use Rattle.ranking_model.proofs.Promises.{promised}
use Rattle.ranking_model.proofs.laws.reports_keep_their_promises.Goals as goal

pub returns : goal.returns
returns c = λ docs n k flat terms report. promised docs n k flat terms report
