use Rattle.shared_lemmas.proofs.Common.{◌≡◌, ◌≤◌, ◌+◌, ◌-◌, ◌*◌, ◌^◌, filter, length, not, sum_by, range_with_len, slice_index}
use Rattle.sharp_bounds.specs.Marks.{has_place, unseen_sum}
use Rattle.sharp_bounds.proofs.unseen.unseen_sum.Given as goal

abbrev pub invariant-loop-place : goal.invariant-loop-place
invariant-loop-place l = (l.sum ≤ l.place * 2 ^ 32) × (l.sum + sum_by (slice_index l.weights) (filter (λ place. not (has_place l.mask place)) (range_with_len l.place (length l.weights - l.place))) ≡ unseen_sum l.mask l.weights)
