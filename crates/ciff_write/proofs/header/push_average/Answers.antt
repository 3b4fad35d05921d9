use Rattle.std.proofs.Common.{ℕ, List, [], ◌∷◌, ◌++◌, ap, sym, ◌∙◌, arith, append_assoc}
use Rattle.ciff_write.proofs.Fields.{eight_some}
use Rattle.ciff_write.proofs.header.push_average.Goals as goal

pub returns-then-not-is_zero : goal.returns-then-not-is_zero
returns-then-not-is_zero c =
    let average : List ℕ = c.args.average.now in
    c.push.ensures ∙ ap (λ (s : List ℕ). s ++ average) c.push_byte.ensures ∙ append_assoc c.args.buffer.now (57 ∷ []) average
    ∙ ap (λ (s : List ℕ). c.args.buffer.now ++ s) (sym (eight_some 7 average (sym c.is_zero.ensures ∙ c.if-not-is_zero.true) (omega arith)))
