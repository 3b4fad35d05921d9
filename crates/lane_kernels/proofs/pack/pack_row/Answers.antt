use Rattle.std.proofs.Common.{List, ℕ, ◌∙◌, get_or, ap, arith}
use Rattle.lane_kernels.proofs.PackRows.{row_waits, row_full, row_rest, bytes_more, room_for_row}
use Rattle.lane_kernels.proofs.pack.pack_row.Goals as goal

pub returns-then-shift-width-lt-WORD_BITS-clause-pending : goal.returns-then-shift-width-lt-WORD_BITS-clause-pending
returns-then-shift-width-lt-WORD_BITS-clause-pending c =
    row_waits c.args.values.now c.args.width c.args.row c.told-values c.requires.some c.requires.width c.requires.row c.requires.fits c.load-lanes.result c.load-lanes.ensures.lanes
    c.args.pending c.requires.pending c.if-shift-width-lt-WORD_BITS.true

pub returns-clause-pending : goal.returns-clause-pending
returns-clause-pending c =
    row_rest c.args.values.now c.args.width c.args.row c.told-values c.requires.some c.requires.width c.requires.row c.requires.fits c.load-lanes.result c.load-lanes.ensures.lanes
    c.if-shift-width-lt-WORD_BITS.false

pub returns-clause-done : goal.returns-clause-done
returns-clause-done c = λ k h.
    ap (λ (xs : List ℕ). get_or xs k 0) c.store_words.ensures
    ∙ bytes_more c.args.values.now c.args.width c.args.row c.told-values c.requires.some c.requires.width c.requires.row c.requires.fits c.load-lanes.result c.load-lanes.ensures.lanes
    c.args.out.now _ (omega (arith, room_for_row c.args.width c.args.row c.requires.some c.requires.row, c.requires.bytes))
    (row_full c.args.values.now c.args.width c.args.row c.told-values c.requires.some c.requires.width c.requires.row c.requires.fits c.load-lanes.result c.load-lanes.ensures.lanes
    c.args.pending c.requires.pending c.if-shift-width-lt-WORD_BITS.false)
    c.if-shift-width-lt-WORD_BITS.false c.requires.done k h
