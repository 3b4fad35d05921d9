use Rattle.std.proofs.Common.{◌≡◌, ◌≤◌, drop, length}
use Rattle.sharp_search.proofs.Heaviest.{greatest_of}
use Rattle.sharp_search.proofs.weights.first_weights.Given as goal

abbrev pub invariant-entries : goal.invariant-entries
invariant-entries l = (l.weights.items ≡ greatest_of l.terms (drop l.from l.plan.entries)) × (l.from ≤ length l.plan.entries)

abbrev pub decreases-entries : goal.decreases-entries
decreases-entries l = l.from
