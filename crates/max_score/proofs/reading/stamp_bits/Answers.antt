use Rattle.shared_lemmas.proofs.Common.{◌+◌, ◌*◌, ◌<◌, All, List, ℕ, ap, arith, sym, subst, length, ◌∙◌, slice_range}
use Rattle.lane_kernels.specs.Bitmap.{set_bits}
use Rattle.max_score.specs.Private.Stamping.{stamped}
use Rattle.max_score.proofs.BitRows.{all_in_front, from_row, none_behind, row_parted}
use Rattle.max_score.proofs.Pieces.{all_stamped, block_inside, more_stamped, none_stamped}
use Rattle.max_score.proofs.reading.stamp_bits.Goals as goal

pub rows-init : goal.rows-init
rows-init c = (none_stamped c.args.impact (set_bits (128 * c.args.first) c.args.bits.now) (from_row c.args.first c.args.bits.now 0) c.args.impacts.now (all_in_front c.args.first c.args.bits.now), omega arith)

pub stamp-requires : goal.stamp-requires
stamp-requires c =
    let block = set_bits (128 * (c.args.first + c.rows.row)) (slice_range c.args.bits.now (16 * c.rows.row) c.min-end.result) in
    let behind = from_row c.args.first c.args.bits.now (c.rows.row + 1) in
    let cut = row_parted c.args.first c.args.bits.now c.rows.row c.min-end.result c.rows-test.true (omega (arith, c.min-end.ensures)) in
    subst (λ (docs : List ℕ). All (λ doc. doc < length c.rows.impacts) docs) (sym c.bits_to_docs-count.ensures.front) (block_inside c.rows.invariant.0 block behind cut c.requires.inside)

pub rows-preserved : goal.rows-preserved
rows-preserved c =
    let block = set_bits (128 * (c.args.first + c.rows.row)) (slice_range c.args.bits.now (16 * c.rows.row) c.min-end.result) in
    let behind = from_row c.args.first c.args.bits.now (c.rows.row + 1) in
    let cut = row_parted c.args.first c.args.bits.now c.rows.row c.min-end.result c.rows-test.true (omega (arith, c.min-end.ensures)) in
    (more_stamped c.rows.invariant.0 block behind cut c.stamp.new.impacts (c.stamp.ensures ∙ ap (λ (docs : List ℕ). stamped c.args.impact docs c.rows.impacts) c.bits_to_docs-count.ensures.front), omega (arith, c.rows-test.true))

pub returns : goal.returns
returns c = all_stamped c.rows.invariant.0 (none_behind c.args.first c.args.bits.now c.rows.row (omega (arith, c.rows-test.false)))
