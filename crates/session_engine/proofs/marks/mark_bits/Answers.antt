use Rattle.shared_lemmas.proofs.Common.{◌+◌, ◌*◌, ap, arith, slice_range, subst, sym, ◌∙◌, List, ℕ, All}
use Rattle.session_engine.proofs.Below.{set_bits}
use Rattle.session_engine.proofs.BitRows.{all_in_front, from_row, none_behind, row_parted}
use Rattle.session_engine.proofs.Marking.{all_but_none, block_inside, more_but, none_but}
use Rattle.session_engine.proofs.marks.mark_bits.Goals as goal

pub rows-init : goal.rows-init
rows-init c = (none_but c.args.place (set_bits (128 * c.args.first) c.args.bits.now) (from_row c.args.first c.args.bits.now 0) c.args.masks.now (all_in_front c.args.first c.args.bits.now) c.requires.inside, omega arith)

pub mark_all-requires-clause-inside : goal.mark_all-requires-clause-inside
mark_all-requires-clause-inside c =
    let block = set_bits (128 * (c.args.first + c.rows.row)) (slice_range c.args.bits.now (16 * c.rows.row) c.min-end.result) in
    let behind = from_row c.args.first c.args.bits.now (c.rows.row + 1) in
    let cut = row_parted c.args.first c.args.bits.now c.rows.row c.min-end.result c.rows-test.true (omega (arith, c.min-end.ensures)) in
    block_inside c.rows.invariant.0 block behind _ cut c.bits_to_docs-count.ensures.front

pub rows-preserved : goal.rows-preserved
rows-preserved c =
    let block = set_bits (128 * (c.args.first + c.rows.row)) (slice_range c.args.bits.now (16 * c.rows.row) c.min-end.result) in
    let behind = from_row c.args.first c.args.bits.now (c.rows.row + 1) in
    let cut = row_parted c.args.first c.args.bits.now c.rows.row c.min-end.result c.rows-test.true (omega (arith, c.min-end.ensures)) in (
      more_but c.rows.invariant.0 block behind _ c.mark_all.new.self cut c.bits_to_docs-count.ensures.front c.mark_all.ensures.masks c.mark_all.ensures.frames
          c.each_posting_marks_its_document.ensures.parts c.each_posting_marks_its_document.ensures.length,
      omega (arith, c.rows-test.true),
    )

pub returns-clause-masks : goal.returns-clause-masks
returns-clause-masks c = all_but_none c.rows.invariant.0 (none_behind c.args.first c.args.bits.now c.rows.row (omega (arith, c.rows-test.false)))
