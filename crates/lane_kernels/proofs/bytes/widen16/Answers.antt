use Rattle.shared_lemmas.proofs.Common.{List, ℕ, ap, ◌∙◌, arith, map-id, take_all, put_chunk_whole}
use Rattle.lane_kernels.proofs.bytes.widen16.Goals as goal
use lib.Lanes.{put_chunk}

pub returns : goal.returns
returns c =
    let bytes = c.args.bytes.now in
    let out = c.args.out.now in
    ap (λ (lanes : List ℕ). put_chunk 0 out lanes) (map-id _ ∙ take_all 16 bytes (omega (arith, c.told-bytes)))
    ∙ put_chunk_whole out bytes (omega (arith, c.told-bytes, c.told-out))
