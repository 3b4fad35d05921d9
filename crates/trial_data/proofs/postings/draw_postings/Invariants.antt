use Rattle.std.proofs.Common.{◌-◌}
use Rattle.trial_data.specs.Trials.{postings_from}
use Rattle.trial_data.proofs.Drawing.{DrawnTo}
use Rattle.trial_data.proofs.postings.draw_postings.Given as goal

abbrev pub invariant-draws : goal.invariant-draws
invariant-draws l = DrawnTo l.docs l.term (postings_from l.docs l.term l.docs 0 l.fn.draws) l.postings.items l.from l.draws

abbrev pub decreases-draws : goal.decreases-draws
decreases-draws l = l.docs - l.from
