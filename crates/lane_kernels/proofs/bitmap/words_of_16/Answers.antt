use Rattle.shared_lemmas.proofs.Common.{◌≡◌, ◌*◌, ◌/◌, ◌%◌, ◌^◌, ◌<◌, ap, ◌∙◌, arith, length, take_all}
use Rattle.lane_kernels.proofs.SetBits.{number_below}
use Rattle.lane_kernels.proofs.bitmap.words_of_16.Goals as goal
use lib.Lanes.{number_l}

pub returns-clause-high : goal.returns-clause-high
returns-clause-high c =
    let bytes = c.args.bytes.now in
    let all : number_l 256 bytes < 2 ^ (8 * length bytes) = number_below bytes (λ k. (c.type_inv.bytes k).fits) in
    let wide : 2 ^ (8 * length bytes) ≡ 2 ^ 128 = ap (λ n. 2 ^ (8 * n)) c.requires in
    ap (λ n. n / 2 ^ 64 % 2 ^ 64) (ap (number_l 256) (take_all 16 bytes (omega arith))) ∙ omega arith
