use Rattle.shared_lemmas.proofs.Common.{◌≡◌, ◌-◌, ◌^◌, min, sum_by, take}
use Rattle.asked_lists.specs.Bound.{list_bound}
use Rattle.asked_lists.proofs.fitting.lists_bound.Given as goal

abbrev pub invariant-loop-list : goal.invariant-loop-list
invariant-loop-list l = l.bytes ≡ min (sum_by list_bound (take l.list-index l.lists)) (2 ^ 64 - 1)
