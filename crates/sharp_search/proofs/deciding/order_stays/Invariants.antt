use Rattle.std.proofs.Common.{◌≡◌, ◌-◌, ◌≤◌, drop, slice_index}
use Rattle.sharp_bounds.specs.Rule.{are_safe_within}
use Rattle.sharp_search.specs.Deciding.{limits_of}
use Rattle.sharp_search.proofs.deciding.order_stays.Given as goal

abbrev pub invariant-loop-next : goal.invariant-loop-next
invariant-loop-next l = (1 ≤ l.next) × (are_safe_within (slice_index (limits_of l.masks.masks l.weights)) l.hits ≡ are_safe_within (slice_index (limits_of l.masks.masks l.weights)) (drop (l.next - 1) l.hits))
