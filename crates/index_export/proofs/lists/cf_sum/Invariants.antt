use Rattle.std.proofs.Common.{◌≡◌, take}
use Rattle.index_export.specs.Private.Gathering.{cf_sum}
use Rattle.index_export.proofs.lists.cf_sum.Given as goal

abbrev pub invariant-loop-list : goal.invariant-loop-list
invariant-loop-list l = l.sum ≡ cf_sum (take l.list-index l.lists)
