use Rattle.std.proofs.Common.{◌∙◌}
use Rattle.lane_kernels.proofs.UnpackRows.{row_from_one, row_from_two}
use Rattle.lane_kernels.proofs.unpack.row_at.Goals as goal
use Rattle.lane_kernels.proofs.unpack.row_at.Goals.{then-shift-width-le-WORD_BITS, else-shift-width-le-WORD_BITS}

pub returns : goal.returns
returns c =
    let bytes = c.args.bytes.now in
    elim c.if-shift-width-le-WORD_BITS.branch [
      | then-shift-width-le-WORD_BITS w ↦
          w.result-is ∙ row_from_one bytes (λ k. (c.type_inv.bytes k).fits) c.args.width c.args.first c.requires.width c.words_at.result c.words_at.ensures
          w.if-shift-width-le-WORD_BITS.true
      | else-shift-width-le-WORD_BITS w ↦
          w.result-is ∙ row_from_two bytes (λ k. (c.type_inv.bytes k).fits) c.args.width c.args.first c.requires.width c.words_at.result c.words_at.ensures
          w.words_at-else-shift-width-le-WORD_BITS.result w.words_at-else-shift-width-le-WORD_BITS.ensures w.if-shift-width-le-WORD_BITS.false
    ]
