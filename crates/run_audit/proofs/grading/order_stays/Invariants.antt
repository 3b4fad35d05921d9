use Rattle.std.proofs.Common.{◌≡◌, ◌-◌, ◌≤◌, drop}
use Rattle.run_audit.specs.Private.Grading.{are_safe}
use Rattle.run_audit.proofs.grading.order_stays.Given as goal

abbrev pub invariant-loop-next : goal.invariant-loop-next
invariant-loop-next l = (1 ≤ l.next) × (are_safe l.bound l.hits ≡ are_safe l.bound (drop (l.next - 1) l.hits))
