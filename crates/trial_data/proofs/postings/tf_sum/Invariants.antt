use Rattle.std.proofs.Common.{◌≡◌, take}
use Rattle.trial_data.specs.Trials.{tf_sum}
use Rattle.trial_data.proofs.postings.tf_sum.Given as goal

abbrev pub invariant-loop-posting : goal.invariant-loop-posting
invariant-loop-posting l = l.sum ≡ tf_sum (take l.posting-index l.postings)
