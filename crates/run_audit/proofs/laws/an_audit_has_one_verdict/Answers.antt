use Rattle.std.proofs.Common.{List, ℕ, subst}
use Rattle.run_audit.specs.Rows.{search_rows}
use Rattle.run_audit.specs.Verdicts.{IsVerdict}
use Rattle.run_audit.proofs.AsPrinted.{one_text}
use Rattle.run_audit.proofs.laws.an_audit_has_one_verdict.Goals as goal

pub returns : goal.returns
returns c names flat queries search run reports first second one two =
    let rows = search_rows names flat queries search.k search.budgets search.tag in
    c.a_verdict_is_one.ensures rows run two.text reports first second
    (subst (λ (text : List ℕ). IsVerdict rows text run reports first) (one_text c.the_grade_is_one.ensures.one names flat queries search.k search.budgets one.text two.text one.printed two.printed) one.judged) two.judged
