use Rattle.shared_lemmas.proofs.Common.{List, ℕ, ◌∙◌, length, get_or, ap, arith, length-put_chunk}
use Rattle.lane_kernels.proofs.UnpackRows.{rows_more}
use Rattle.lane_kernels.proofs.unpack.unpack_rows.Goals as goal

pub loop-row-preserved : goal.loop-row-preserved
loop-row-preserved c = record {
  long = ap length c.store.ensures ∙ length-put_chunk _ c.loop-row.out _ ∙ c.loop-row.invariant.long;
  done = λ k h. ap (λ (xs : List ℕ). get_or xs k 0) c.store.ensures
      ∙ rows_more c.args.bytes.now c.loop-row.out c.row_at.result c.args.width c.loop-row.row c.loop-row.invariant.long (omega arith) c.row_at.ensures c.loop-row.invariant.done k h;
}
