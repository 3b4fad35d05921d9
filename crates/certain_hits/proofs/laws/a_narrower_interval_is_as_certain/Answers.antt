use Rattle.certain_hits.proofs.Keeping.{narrower, never_fewer}
use Rattle.certain_hits.proofs.laws.a_narrower_interval_is_as_certain.Goals as goal

pub returns-clause-certain : goal.returns-clause-certain
returns-clause-certain c = narrower

pub returns-clause-count : goal.returns-clause-count
returns-clause-count c = λ scores limits later left k same same_later low most. never_fewer scores limits later left k low most same same_later
