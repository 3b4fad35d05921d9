use Rattle.std.proofs.Common.{ℕ, List, ◌*◌, ◌+◌, ◌≡◌, ◌↔◌, bit_or, take, subst, arith}
use Rattle.lane_kernels.proofs.Widths.{Below, union_more, union_all}
use Rattle.lane_kernels.proofs.width.union128.Goals as goal
use lib.Lanes.{zip2}

pub loop-row-preserved : goal.loop-row-preserved
loop-row-preserved c = λ width.
    let i : ℕ = 4 * c.loop-row.row in
    let next : i + 4 ≡ 4 * (c.loop-row.row + 1) = omega arith in
    let lanes : List ℕ = zip2 bit_or c.loop-row.union c.load-union.result in
    let P : ℕ → Type 0 = λ n. Below width lanes ↔ Below width (take n c.args.values.now) in
    subst P next
    (union_more width c.args.values.now c.loop-row.union c.load-union.result i c.load-union.ensures.lanes (omega arith) (c.loop-row.invariant width))

pub returns : goal.returns
returns c = λ width.
    union_all width c.args.values.now c.loop-row.union (4 * c.loop-row.row) (omega (arith, c.told-values)) (c.loop-row.invariant width)
