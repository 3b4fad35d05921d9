use Rattle.certain_hits.proofs.Covering.{certain_kept}
use Rattle.certain_hits.proofs.Keeping.{kept_certain, sharp_certain}
use Rattle.certain_hits.proofs.laws.a_kept_answer_is_certain.Goals as goal

pub returns-clause-kept : goal.returns-clause-kept
returns-clause-kept c = kept_certain

pub returns-clause-sharp : goal.returns-clause-sharp
returns-clause-sharp c = sharp_certain

pub returns-clause-keeps : goal.returns-clause-keeps
returns-clause-keeps c = certain_kept
