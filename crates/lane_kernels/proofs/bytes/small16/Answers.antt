use Rattle.shared_lemmas.proofs.Common.{ltb, take, arith, w8, length-take-le, take_all, bitmask_splat}
use Rattle.lane_kernels.proofs.Places.{all_small}
use Rattle.lane_kernels.proofs.bytes.small16.Goals as goal

pub returns : goal.returns
returns c =
    let bytes = c.args.bytes.now in
    let lanes = take 16 bytes in
    all_small bytes lanes _ (take_all 16 bytes (omega (arith, c.told-bytes))) (length-take-le 16 bytes (omega (arith, c.told-bytes)))
    (bitmask_splat w8 ltb lanes 16 128 (length-take-le 16 bytes (omega (arith, c.told-bytes))) (omega arith))
