use Rattle.std.proofs.Common.{arith, refl, sym}
use Rattle.index_file.specs.Sources.{piece_docs}
use Rattle.max_score.proofs.Pieces.{as_many, at_most, begun, block_inside, finished, more}
use Rattle.max_score.proofs.reading.read_pieces.Goals as goal

pub pieces-init : goal.pieces-init
pieces-init g c = (begun (g.S.Source.left c.args.source.now c.start-cursor.result) c.args.segment.impact _ c.args.impacts.now c.args.steps.now c.start-cursor.ensures, refl)

pub stamp_piece-requires-clause-inside : goal.stamp_piece-requires-clause-inside
stamp_piece-requires-clause-inside g c =
    let part = c.pieces.invariant.0 in let handed = c.hand_out-piece.ensures.piece part.rest part.stays in
    block_inside part.stamped (piece_docs c.hand_out-piece.result c.hand_out-piece.new.block) handed.rest (sym handed.parted) c.requires.inside

pub overflow_sub-left : goal.overflow_sub-left
overflow_sub-left g c =
    let part = c.pieces.invariant.0 in let handed = c.hand_out-piece.ensures.piece part.rest part.stays in
    let many = as_many part c.args.segment.count c.pieces.left c.requires.count c.pieces.invariant.1 in
    let most = at_most part c.hand_out-piece.result c.hand_out-piece.new.block handed c.pieces.left many in
    omega (arith, most, c.count-left.ensures)

pub pieces-preserved : goal.pieces-preserved
pieces-preserved g c =
    let part = c.pieces.invariant.0 in let handed = c.hand_out-piece.ensures.piece part.rest part.stays in
    let many = as_many part c.args.segment.count c.pieces.left c.requires.count c.pieces.invariant.1 in
    let most = at_most part c.hand_out-piece.result c.hand_out-piece.new.block handed c.pieces.left many in (
      more part c.hand_out-piece.result c.hand_out-piece.new.block handed c.stamp_piece.new.impacts c.hand_out-piece.new.steps c.stamp_piece.ensures c.hand_out-piece.ensures.steps,
      omega (arith, most, many, handed.count, c.count-left.ensures, c.pieces.invariant.1, c.hand_out-piece.ensures.steps),
    )

pub returns-clause-impacts : goal.returns-clause-impacts
returns-clause-impacts g c =
    let part = c.pieces.invariant.0 in let many = as_many part c.args.segment.count c.pieces.left c.requires.count c.pieces.invariant.1 in
    let test = c.pieces-test.false in
    finished part (omega (arith, many, test))
