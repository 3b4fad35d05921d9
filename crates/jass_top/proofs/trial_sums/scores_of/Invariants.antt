use Rattle.std.proofs.Common.{◌≡◌, ◌≤◌, ◌*◌, take}
use Rattle.jass_top.specs.TrialMeaning.{hit_scores}
use Rattle.jass_top.proofs.trial_sums.scores_of.Given as goal

abbrev pub invariant-loop-hit : goal.invariant-loop-hit
invariant-loop-hit l = record { counted : l.sum ≡ hit_scores (take l.hit-index l.hits); small : l.sum ≤ l.hit-index * 4294967296 }
