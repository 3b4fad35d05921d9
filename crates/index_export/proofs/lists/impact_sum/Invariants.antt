use Rattle.std.proofs.Common.{◌≡◌, take}
use Rattle.index_export.specs.Exports.{impact_sum}
use Rattle.index_export.proofs.lists.impact_sum.Given as goal

abbrev pub invariant-loop-posting : goal.invariant-loop-posting
invariant-loop-posting l = l.sum ≡ impact_sum (take l.posting-index l.postings)
