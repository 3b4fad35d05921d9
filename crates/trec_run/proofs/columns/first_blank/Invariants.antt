use Rattle.std.proofs.Common.{ℕ, ◌≡◌, ◌-◌, ◌≤◌, ◌<◌, false, length, get_or}
use Rattle.trec_run.specs.Runs.{is_blank}
use Rattle.trec_run.proofs.columns.first_blank.Given as goal

abbrev pub invariant-loop-at : goal.invariant-loop-at
invariant-loop-at l = (l.at ≤ length l.text) × ((i : ℕ) → i < l.at → is_blank (get_or l.text i 0) ≡ false)

abbrev pub decreases-loop-at : goal.decreases-loop-at
decreases-loop-at l = length l.text - l.at
