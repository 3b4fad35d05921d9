use Rattle.std.proofs.Common.{arith, ◌≡◌, ◌+◌, ◌-◌, ap, ◌∙◌, sym, drop, replicate}
use Rattle.std.proofs.lemmas.List.{drop-set-lt, drop-drop, drop-replicate, length-set}
use Rattle.jass_base.specs.declared.answer.Budget.TheVariants.{All}
use Rattle.jass_words.proofs.budgets.Budgets.with.Goals as goal

pub invariant_of-result : goal.invariant_of-result
invariant_of-result c =
    let count = c.self.inside.count in let items = c.self.inside.items in
    let (within, size, spare) = c.self.invariant in
    let left : 16 - count - 1 ≡ 16 - (count + 1) = omega arith in (
      omega (arith, within, c.if-self-eq-MOST_BUDGETS.false),
      length-set items count c.args.budget ∙ size,
      drop-set-lt (count + 1) items count c.args.budget (omega arith) ∙ sym (drop-drop 1 count items) ∙ ap (drop 1) spare ∙ drop-replicate 1 (16 - count) All ∙ ap (λ n. replicate n All) left,
    )
