use Rattle.shared_lemmas.proofs.Common.{◌≡◌, ◌≤◌, length, map, take, AllByRecursion}
use Rattle.segment_plan.specs.declared.entry.PlanHead.{PlanHead}
use Rattle.segment_plan.specs.Entries.{entry_of}
use Rattle.segment_plan.specs.Private.Arranging.{AreLight}
use Rattle.segment_plan.proofs.tables.weigh.Given as goal

abbrev pub invariant-loop-head : goal.invariant-loop-head
invariant-loop-head l = (l.entries.items ≡ map (entry_of l.terms) (take l.head-index l.heads)) × AreLight (length l.terms) l.entries.items × AllByRecursion (λ (head : PlanHead). head.impact ≤ 65535) (take l.head-index l.heads)
