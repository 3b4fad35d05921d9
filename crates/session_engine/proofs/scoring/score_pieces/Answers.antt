use Rattle.shared_lemmas.proofs.Common.{◌∙◌, ℕ, List, ap, arith, length, refl, sym, recursion_from_All}
use Rattle.session_engine.proofs.Below.{added, piece_docs, scores_of}
use Rattle.session_engine.proofs.Pieces.{as_many, at_most, begun, finished, more}
use Rattle.session_engine.proofs.Marking.{all_marked, more_marked, none_marked, piece_can}
use Rattle.session_engine.proofs.PartlyScored.{block_fits, block_inside, block_room}
use Rattle.session_engine.proofs.scoring.score_pieces.Goals as goal

pub pieces-init : goal.pieces-init
pieces-init g c = (
  begun (g.S.Source.left c.args.source.now c.start-cursor.result) c.args.segment.weight _ c.args.scores.now c.args.pool.now c.args.steps.now c.start-cursor.ensures c.requires.stand (c.calls_on_one_chain.ensures.none c.args.pool.now _),
  refl,
  none_marked (g.S.Source.left c.args.source.now c.start-cursor.result) (g.M.Marks.has_mask c.args.marks.now) c.args.segment.term_place _ (g.M.Marks.masks c.args.marks.now) c.args.steps.now c.start-cursor.ensures
      (recursion_from_All (g.M.Marks.has_mask c.args.marks.now) _ c.requires.marks),
  (λ place room. room),
  (λ doc room. room),
)

pub mark_piece-requires-clause-inside : goal.mark_piece-requires-clause-inside
mark_piece-requires-clause-inside g c =
    let marks = c.pieces.invariant.2 in let handed = c.hand_out-piece.ensures.piece marks.rest marks.stays in
    piece_can marks c.hand_out-piece.result c.hand_out-piece.new.block handed

pub score_piece-requires-clause-inside : goal.score_piece-requires-clause-inside
score_piece-requires-clause-inside g c =
    let part = c.pieces.invariant.0 in let handed = c.hand_out-piece.ensures.piece part.rest part.stays in
    block_inside part.scored (piece_docs c.hand_out-piece.result c.hand_out-piece.new.block) handed.rest (sym handed.parted) c.requires.inside

pub score_piece-requires-clause-fits : goal.score_piece-requires-clause-fits
score_piece-requires-clause-fits g c =
    let part = c.pieces.invariant.0 in let handed = c.hand_out-piece.ensures.piece part.rest part.stays in
    block_fits part.scored (piece_docs c.hand_out-piece.result c.hand_out-piece.new.block) handed.rest (sym handed.parted) c.requires.fits
    c.one_segment_more_is_added.ensures.parts c.scores_stay_small.ensures.part

pub score_piece-requires-clause-room : goal.score_piece-requires-clause-room
score_piece-requires-clause-room g c =
    let part = c.pieces.invariant.0 in let handed = c.hand_out-piece.ensures.piece part.rest part.stays in
    block_room part.scored (piece_docs c.hand_out-piece.result c.hand_out-piece.new.block) handed.rest (sym handed.parted) c.args.segment.count c.requires.count c.requires.room

pub overflow_sub-left : goal.overflow_sub-left
overflow_sub-left g c =
    let part = c.pieces.invariant.0 in let handed = c.hand_out-piece.ensures.piece part.rest part.stays in
    let many = as_many part c.args.segment.count c.pieces.left c.requires.count c.pieces.invariant.1 in
    let most = at_most part c.hand_out-piece.result c.hand_out-piece.new.block handed c.pieces.left many in
    omega (arith, most, c.count-left.ensures)

pub pieces-preserved : goal.pieces-preserved
pieces-preserved g c =
    let part = c.pieces.invariant.0 in let handed = c.hand_out-piece.ensures.piece part.rest part.stays in
    let many = as_many part c.args.segment.count c.pieces.left c.requires.count c.pieces.invariant.1 in
    let most = at_most part c.hand_out-piece.result c.hand_out-piece.new.block handed c.pieces.left many in (
      more part c.hand_out-piece.result c.hand_out-piece.new.block handed c.score_piece.new.scores c.score_piece.new.pool c.hand_out-piece.new.steps
          c.score_piece.ensures.stand c.score_piece.ensures.scores c.score_piece.ensures.frames c.score_piece.ensures.same c.score_piece.ensures.leaves c.hand_out-piece.ensures.steps
          c.one_segment_more_is_added.ensures.parts c.calls_on_one_chain.ensures.two,
      omega (arith, most, many, handed.count, c.count-left.ensures, c.pieces.invariant.1, c.hand_out-piece.ensures.steps),
      more_marked c.pieces.invariant.2 c.hand_out-piece.result c.hand_out-piece.new.block (c.hand_out-piece.ensures.piece c.pieces.invariant.2.rest c.pieces.invariant.2.stays)
          (g.M.Marks.has_mask c.mark_piece.new.self) (g.M.Marks.masks c.mark_piece.new.self) c.hand_out-piece.new.steps
          c.mark_piece.ensures.masks c.mark_piece.ensures.docs c.hand_out-piece.ensures.steps c.each_posting_marks_its_document.ensures.parts,
      (λ place room. c.mark_piece.ensures.places place (c.pieces.invariant.3 place room)),
      (λ doc room. c.mark_piece.ensures.docs doc (c.pieces.invariant.4 doc room)),
    )

pub returns-clause-scores : goal.returns-clause-scores
returns-clause-scores g c =
    let part = c.pieces.invariant.0 in let many = as_many part c.args.segment.count c.pieces.left c.requires.count c.pieces.invariant.1 in
    let test = c.pieces-test.false in
    part.scored.sums ∙ ap (λ docs. added c.args.segment.weight docs (scores_of c.args.scores.now c.args.pool.now)) (finished part (omega (arith, many, test)))

pub returns-clause-frames : goal.returns-clause-frames
returns-clause-frames g c =
    let part = c.pieces.invariant.0 in let many = as_many part c.args.segment.count c.pieces.left c.requires.count c.pieces.invariant.1 in
    let test = c.pieces-test.false in
    let all = ap (λ (docs : List ℕ). length docs) (finished part (omega (arith, many, test))) in
    omega (arith, all, part.scored.frames, c.requires.count)

pub returns-clause-masks : goal.returns-clause-masks
returns-clause-masks g c = all_marked c.pieces.invariant.2 (let sums = c.pieces.invariant.1 in let test = c.pieces-test.false in omega (arith, sums, test, c.requires.count))
