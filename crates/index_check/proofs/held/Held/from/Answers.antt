use Rattle.index_check.proofs.HeldPieces.{held_piece}
use Rattle.index_check.proofs.held.Held.from.Goals as goal

pub returns-clause-piece : goal.returns-clause-piece
returns-clause-piece c =
    λ content count holds reach.
    held_piece content c.args.self.now.window.bytes.items c.as_slice-bytes.result.now c.args.self.now.window.start c.args.at count c.args.self.now.size c.min.result
    holds.0 c.as_slice-bytes.ensures.value c.requires.at.not_before c.requires.at.not_behind c.requires.within holds.1 c.min.ensures reach
