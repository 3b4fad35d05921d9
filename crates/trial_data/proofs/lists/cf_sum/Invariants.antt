use Rattle.std.proofs.Common.{◌≡◌, take}
use Rattle.trial_data.specs.Private.Gathering.{cf_sum}
use Rattle.trial_data.proofs.lists.cf_sum.Given as goal

abbrev pub invariant-loop-list : goal.invariant-loop-list
invariant-loop-list l = l.sum ≡ cf_sum (take l.list-index l.lists)
