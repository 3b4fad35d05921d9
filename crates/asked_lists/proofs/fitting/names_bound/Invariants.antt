use Rattle.shared_lemmas.proofs.Common.{◌≡◌, ◌-◌, ◌^◌, min, sum_by, take}
use Rattle.asked_lists.specs.Bound.{name_bound}
use Rattle.asked_lists.proofs.fitting.names_bound.Given as goal

abbrev pub invariant-loop-doc : goal.invariant-loop-doc
invariant-loop-doc l = l.bytes ≡ min (sum_by name_bound (take l.doc-index l.docs)) (2 ^ 64 - 1)
