use Rattle.session_engine.proofs.Below.{piece_docs}
use Rattle.session_engine.proofs.Marking.{no_masks}
use Rattle.session_engine.proofs.marks.NoMarksMarks.mark_piece.Goals as goal

pub returns-clause-masks : goal.returns-clause-masks
returns-clause-masks c = no_masks c.args.place (piece_docs c.args.piece c.args.block.now)
