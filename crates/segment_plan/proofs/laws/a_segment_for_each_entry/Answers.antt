use Rattle.segment_plan.proofs.Alike.{alike_at}
use Rattle.segment_plan.proofs.laws.a_segment_for_each_entry.Goals as goal

pub returns-clause-segment : goal.returns-clause-segment
returns-clause-segment c = λ view plan n segment entry h there is. alike_at n plan.segments view.entries segment entry h.segments there is
