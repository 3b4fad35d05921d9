use Rattle.ranking_model.proofs.Candidates.{first_of_candidates, first_down_to}
use Rattle.ranking_model.proofs.laws.the_candidates_have_the_first.Goals as goal

pub returns-clause-among : goal.returns-clause-among
returns-clause-among c = λ scores m candidates are there. first_of_candidates scores m candidates are there

pub returns-clause-down_to : goal.returns-clause-down_to
returns-clause-down_to c = λ scores m floor candidates are has enough. first_down_to scores m floor candidates are has enough
