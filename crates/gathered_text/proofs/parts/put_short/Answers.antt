use Rattle.std.proofs.Common.{rules, List, ℕ, ◌++◌, take, ap, ◌∙◌}
use Rattle.gathered_text.proofs.Moves.{half_a_row, whole_row}
use Rattle.gathered_text.proofs.parts.put_short.Goals as goal

pub returns-then-len-le32-clause-text : goal.returns-then-len-le32-clause-text
returns-then-len-le32-clause-text c =
    half_a_row c.args.to.now c.row.result.now c.args.at (search rules) c.requires c.len-len.result c.if-len-le32.true
    ∙ ap (λ (xs : List ℕ). take c.args.at c.args.to.now ++ xs) (ap (λ n. take n c.row.result.now) c.len-len.ensures.count ∙ c.row.ensures)

pub returns-clause-text : goal.returns-clause-text
returns-clause-text c =
    whole_row c.args.to.now c.row.result.now c.args.at (search rules) c.requires c.len-len.result c.len-len.ensures.few
    ∙ ap (λ (xs : List ℕ). take c.args.at c.args.to.now ++ xs) (ap (λ n. take n c.row.result.now) c.len-len.ensures.count ∙ c.row.ensures)
