use Rattle.std.proofs.Common.{[]}
use Rattle.gathered_text.proofs.Compose.{pieces_next, up_to_more, up_to_failed}
use Rattle.gathered_text.proofs.gather.gather_all.Goals as goal

pub returns-in_err-put_bytes : goal.returns-in_err-put_bytes
returns-in_err-put_bytes g c =
    up_to_failed _ _ _ (pieces_next (λ piece. piece.now) c.args.pieces.now c.loop-piece.piece-index (record { ref_ptr = (0, 0); now = [] }) c.loop-piece-test.true) c.loop-piece.invariant c.from_residual.ensures.0 c.in_err-put_bytes.ensures

pub loop-piece-preserved : goal.loop-piece-preserved
loop-piece-preserved g c =
    up_to_more _ _ _ (pieces_next (λ piece. piece.now) c.args.pieces.now c.loop-piece.piece-index (record { ref_ptr = (0, 0); now = [] }) c.loop-piece-test.true) c.loop-piece.invariant c.in_ok-put_bytes.ensures
