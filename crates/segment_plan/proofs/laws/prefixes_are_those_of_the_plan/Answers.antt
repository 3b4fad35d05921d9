use Rattle.std.proofs.Common.{drop}
use Rattle.segment_plan.proofs.Alike.{alike_drop, alike_size, alike_sizes, alike_prefix}
use Rattle.segment_plan.proofs.laws.prefixes_are_those_of_the_plan.Goals as goal

pub returns-clause-size : goal.returns-clause-size
returns-clause-size c = λ view plan n h. alike_size n plan.segments view.entries h.segments

pub returns-clause-all : goal.returns-clause-all
returns-clause-all c = λ view plan h. alike_sizes plan.segments view.entries h.segments

pub returns-clause-prefix : goal.returns-clause-prefix
returns-clause-prefix c = λ view plan budget h. alike_prefix budget plan.segments view.entries h.segments

pub returns-clause-resumed : goal.returns-clause-resumed
returns-clause-resumed c = λ view plan from left h. alike_prefix left (drop from plan.segments) (drop from view.entries) (alike_drop from plan.segments view.entries h.segments)
