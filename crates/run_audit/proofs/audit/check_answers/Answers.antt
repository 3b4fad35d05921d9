use Rattle.std.proofs.Common.{◌≡◌, List, [], true, refl, sym, subst, arith}
use Rattle.trec_run.specs.declared.run_line.RunLine.{RunLine}
use Rattle.index_model.specs.Flat.{numbered_flat}
use Rattle.run_audit.specs.declared.place.Place.{Place}
use Rattle.run_audit.specs.Audits.{queries_data}
use Rattle.run_audit.specs.Verdicts.{IsVerdict}
use Rattle.run_audit.specs.Private.Places.{Agrees}
use Rattle.run_audit.specs.Private.Texts.{queries_reports, queries_rows}
use Rattle.run_audit.proofs.Turns.{reports_are, rows_are}
use Rattle.run_audit.proofs.audit.check_answers.Goals as goal

-- nothing is known
none_known : {A : Type 0} (given : List A) (place : Place) → place ≡ record { at = 0; same = true } → Agrees [] given place
none_known given place is = subst (Agrees [] given) (sym is) (omega arith, refl)

pub returns-clause-verdict : goal.returns-clause-verdict
returns-clause-verdict g c =
    let index = c.args.index.now.index in
    let search = c.args.search.now in
    let flat = numbered_flat index in
    let queries = queries_data c.args.queries.now in
    let rows = queries_rows index.names flat search.k search.budgets.now search.tag.now queries in
    let text = queries_reports index.names flat search.k search.budgets.now queries in
    let run = c.in_ok-check_queries.ensures.run [] (none_known c.args.run.now c.start.result c.start.ensures) in
    let reports = c.in_ok-check_queries.ensures.reports [] (none_known c.args.reports.now c.start-2.result c.start-2.ensures) in
    record {
      text = text;
      printed = reports_are index.names flat search.k search.budgets.now queries;
      judged = subst (λ (rows : List RunLine). IsVerdict rows text c.args.run.now c.args.reports.now c.verdict_of.result)
          (rows_are c.each_budget_has_its_prefix.ensures.many index.names flat search.k search.budgets.now search.tag.now queries) (c.verdict_of.ensures rows text run reports);
    }
