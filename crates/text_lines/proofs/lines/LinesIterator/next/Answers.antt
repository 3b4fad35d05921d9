use Rattle.std.proofs.Common.{rules, ◌+◌, ◌∷◌, ap, sym, ◌∙◌}
use Rattle.text_lines.specs.Lines.{lines_of}
use Rattle.text_lines.proofs.Dividing.{numbered_first, numbered_none, goes_on}
use Rattle.text_lines.proofs.lines.LinesIterator.next.Goals as goal

pub returns-then-is_empty-clause-steps : goal.returns-then-is_empty-clause-steps
returns-then-is_empty-clause-steps c =
    let none = sym c.self.view_is ∙ numbered_none (c.self.inside.passed + 1) c.self.inside.rest.now (search rules) in
    (none, none)

pub returns-clause-steps : goal.returns-clause-steps
returns-clause-steps c =
    let rest = lines_of c.first_line.result.1.now in
    sym c.self.view_is ∙ numbered_first (c.self.inside.passed + 1) _ c.without_return.result.now rest (c.first_line.ensures.lines ∙ ap (λ bytes. bytes ∷ rest) (sym c.without_return.ensures))

pub returns-clause-goes : goal.returns-clause-goes
returns-clause-goes c =
    let rest = lines_of c.first_line.result.1.now in
    goes_on _ (λ _. tt) _ _ _ _ (sym c.self.view_is ∙ numbered_first (c.self.inside.passed + 1) _ c.without_return.result.now rest (c.first_line.ensures.lines ∙ ap (λ bytes. bytes ∷ rest) (sym c.without_return.ensures)))
