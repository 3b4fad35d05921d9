use Rattle.shared_lemmas.proofs.Common.{◌≡◌, ◌*◌, ◌/◌, ◌≤◌, arith, mul-le}
use Rattle.lane_kernels.specs.Block.{block_byte}
use Rattle.lane_kernels.proofs.Bits.{list_of_all}
use Rattle.lane_kernels.proofs.PackRows.{none_pending}
use Rattle.lane_kernels.proofs.pack.pack_rows.Goals as goal

pub loop-row-init : goal.loop-row-init
loop-row-init c =
    let none : 0 * c.args.width ≡ 0 = omega arith in
    record { pending = none_pending c.args.values.now c.args.width (0 * c.args.width) none; done = λ k h. absurd (omega arith) }

pub returns : goal.returns
returns c =
    let rows : 32 * c.args.width ≤ c.loop-row.row * c.args.width = mul-le 32 c.args.width c.loop-row.row c.args.width (omega arith) (omega arith) in
    let whole : 16 * c.args.width ≤ 16 * (c.loop-row.row * c.args.width / 32) = omega arith in
    list_of_all (block_byte c.args.values.now c.args.width) c.loop-row.out (16 * c.args.width) (omega arith) (λ k h. c.loop-row.invariant.done k (omega arith))
