use Rattle.shared_lemmas.proofs.Common.{◌∙◌, ap, length, sum_by, take-length}
use Rattle.ranking_model.specs.declared.plan_segment.PlanSegment.{PlanSegment}
use Rattle.ranking_model.specs.Plan.{plan_segments}
use Rattle.ranking_model.proofs.Small.{sizes, gains}
use Rattle.ranking_model.proofs.laws.the_segments_have_all_postings.Goals as goal

pub returns-clause-number : goal.returns-clause-number
returns-clause-number c = λ postings. ap (sum_by (λ (segment : PlanSegment). length segment.docs)) (take-length (plan_segments postings)) ∙ sizes postings

pub returns-clause-scores : goal.returns-clause-scores
returns-clause-scores c = λ postings doc. gains doc postings
