use Rattle.final_certificate.proofs.Deciding.{graded_standing}
use Rattle.final_certificate.proofs.laws.the_rule_gives_the_grade.Goals as goal

pub returns : goal.returns
returns c = λ scores k bound. graded_standing scores k bound
