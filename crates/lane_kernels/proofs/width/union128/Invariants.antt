use Rattle.shared_lemmas.proofs.Common.{ℕ, ◌*◌, ◌^◌, ◌<◌, ◌↔◌, take, AllByRecursion}
use Rattle.lane_kernels.proofs.width.union128.Given as goal

abbrev pub invariant-loop-row : goal.invariant-loop-row
invariant-loop-row l = (width : ℕ) → AllByRecursion (λ v. v < 2 ^ width) l.union ↔ AllByRecursion (λ v. v < 2 ^ width) (take (4 * l.row) l.values)
