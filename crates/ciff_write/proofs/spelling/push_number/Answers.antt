use Rattle.std.proofs.Common.{List, ℕ, [], ◌∷◌, ◌++◌, ◌*◌, ap, sym, ◌∙◌, append_assoc}
use Rattle.jass_base.specs.Wire.{short_varint}
use Rattle.ciff_write.proofs.Fields.{number_some}
use Rattle.ciff_write.proofs.spelling.push_number.Goals as goal

pub returns-then-value-ne0-clause-bytes : goal.returns-then-value-ne0-clause-bytes
returns-then-value-ne0-clause-bytes c =
    c.push_varint.ensures.bytes ∙ ap (λ (s : List ℕ). s ++ short_varint c.args.value) c.push_byte.ensures ∙ append_assoc c.args.buffer.now (c.args.field * 8 ∷ []) (short_varint c.args.value)
    ∙ ap (λ (s : List ℕ). c.args.buffer.now ++ s) (sym (number_some c.args.field c.args.value c.if-value-ne0.true c.requires.field))
