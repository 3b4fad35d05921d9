use Rattle.std.proofs.Common.{List, sym, subst}
use Rattle.ciff_read.specs.declared.piece.Piece.TheVariants as pieces
use Rattle.ciff_read.specs.Given.{PieceRanges}
use Rattle.ciff_read.specs.Pieces.{KeptList}
use Rattle.ciff_read.specs.Walk.{IsGiven}
use Rattle.ciff_read.proofs.Rising.{given_last}
use Rattle.format_tests.proofs.ciff_walking.read_list.Goals as goal

pub returns : goal.returns
returns c =
    let l = c.in-Ok-List in
    let list : PieceRanges c.args.walk.now c.next_piece.new.self (pieces.List l.at l.field-0-1) = subst (PieceRanges c.args.walk.now c.next_piece.new.self) l.field-0-is l.ensures.ranges in
    subst (λ (kept : List KeptList). IsGiven kept l.at) (sym list.4) (given_last _ _)
