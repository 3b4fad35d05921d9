use Rattle.shared_lemmas.proofs.Common.{◌+◌, ◌*◌, ap, arith, refl, length, ◌∙◌, slice_range}
use Rattle.session_engine.proofs.Below.{set_bits, added, scores_of}
use Rattle.session_engine.proofs.BitRows.{all_in_front, from_row, none_behind, row_parted}
use Rattle.session_engine.proofs.PartlyScored.{all_scored, block_fits, block_inside, block_room, more_scored, none_scored}
use Rattle.session_engine.proofs.scoring.score_bits.Goals as goal

pub rows-init : goal.rows-init
rows-init c = (
  none_scored c.args.weight (set_bits (128 * c.args.first) c.args.bits.now) (from_row c.args.first c.args.bits.now 0) c.args.scores.now c.args.pool.now (all_in_front c.args.first c.args.bits.now)
      c.requires.stand (c.calls_on_one_chain.ensures.none c.args.pool.now _),
  omega arith,
)

pub add_bits-requires-clause-inside : goal.add_bits-requires-clause-inside
add_bits-requires-clause-inside c =
    let block = set_bits (128 * (c.args.first + c.rows.row)) (slice_range c.args.bits.now (16 * c.rows.row) c.min-end.result) in
    let behind = from_row c.args.first c.args.bits.now (c.rows.row + 1) in
    let cut = row_parted c.args.first c.args.bits.now c.rows.row c.min-end.result c.rows-test.true (omega (arith, c.min-end.ensures)) in
    block_inside c.rows.invariant.0 block behind cut c.requires.inside

pub add_bits-requires-clause-fits : goal.add_bits-requires-clause-fits
add_bits-requires-clause-fits c =
    let block = set_bits (128 * (c.args.first + c.rows.row)) (slice_range c.args.bits.now (16 * c.rows.row) c.min-end.result) in
    let behind = from_row c.args.first c.args.bits.now (c.rows.row + 1) in
    let cut = row_parted c.args.first c.args.bits.now c.rows.row c.min-end.result c.rows-test.true (omega (arith, c.min-end.ensures)) in
    block_fits c.rows.invariant.0 block behind cut c.requires.fits c.one_segment_more_is_added.ensures.parts c.scores_stay_small.ensures.part

pub add_bits-requires-clause-frames : goal.add_bits-requires-clause-frames
add_bits-requires-clause-frames c =
    let block = set_bits (128 * (c.args.first + c.rows.row)) (slice_range c.args.bits.now (16 * c.rows.row) c.min-end.result) in
    let behind = from_row c.args.first c.args.bits.now (c.rows.row + 1) in
    let cut = row_parted c.args.first c.args.bits.now c.rows.row c.min-end.result c.rows-test.true (omega (arith, c.min-end.ensures)) in
    block_room c.rows.invariant.0 block behind cut (length (set_bits (128 * c.args.first) c.args.bits.now)) refl c.requires.room

pub rows-preserved : goal.rows-preserved
rows-preserved c =
    let block = set_bits (128 * (c.args.first + c.rows.row)) (slice_range c.args.bits.now (16 * c.rows.row) c.min-end.result) in
    let behind = from_row c.args.first c.args.bits.now (c.rows.row + 1) in
    let cut = row_parted c.args.first c.args.bits.now c.rows.row c.min-end.result c.rows-test.true (omega (arith, c.min-end.ensures)) in (
      more_scored c.rows.invariant.0 block behind cut c.add_bits.new.self c.add_bits.new.pool
          c.add_bits.ensures.stand c.add_bits.ensures.scores c.add_bits.ensures.frames c.add_bits.ensures.same c.add_bits.ensures.leaves
          c.one_segment_more_is_added.ensures.parts c.calls_on_one_chain.ensures.two,
      omega (arith, c.rows-test.true),
    )

pub returns-clause-scores : goal.returns-clause-scores
returns-clause-scores c =
    let part = c.rows.invariant.0 in
    part.sums ∙ ap (λ docs. added c.args.weight docs (scores_of c.args.scores.now c.args.pool.now))
    (all_scored part (none_behind c.args.first c.args.bits.now c.rows.row (omega (arith, c.rows-test.false))))

pub returns-clause-frames : goal.returns-clause-frames
returns-clause-frames c =
    let part = c.rows.invariant.0 in
    let all = ap length (all_scored part (none_behind c.args.first c.args.bits.now c.rows.row (omega (arith, c.rows-test.false)))) in
    omega (arith, all, part.frames)
