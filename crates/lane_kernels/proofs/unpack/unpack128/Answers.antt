use Rattle.shared_lemmas.proofs.Common.{List, ℕ, ◌≡◌, ◌∙◌, length, replicate, sym, ap, get_or-replicate, length-replicate}
use Rattle.lane_kernels.specs.Block.{block_value, block_values}
use Rattle.lane_kernels.proofs.Bits.{list_of_all}
use Rattle.lane_kernels.proofs.UnpackRows.{block_value_of_none}
use Rattle.lane_kernels.proofs.unpack.unpack128.Goals as goal

zeros : (bytes out slots : List ℕ) (width : ℕ) → width ≡ 0 → length out ≡ 128 → slots ≡ replicate (length out) 0 → slots ≡ block_values bytes width
zeros bytes out slots width none long are =
    are ∙ ap (λ n. replicate n 0) long
    ∙ list_of_all (block_value bytes width) (replicate 128 0) 128 (length-replicate {A = ℕ} 128 0)
    (λ k h. get_or-replicate {A = ℕ} 128 k 0 0 h ∙ sym (ap (λ w. block_value bytes w k) none ∙ block_value_of_none bytes k))

pub returns-in-0 : goal.returns-in-0
returns-in-0 c = zeros c.args.bytes.now c.args.out.now _ c.args.width c.in-0.is c.told-out c.fill_zero.ensures
