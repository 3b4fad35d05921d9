use Rattle.std.proofs.Common.{◌≡◌, List, length, ap, subst, ◌∙◌, OnOk}
use Rattle.jass_base.specs.declared.query_term.QueryTerm.{QueryTerm}
use Rattle.ranking_model.specs.declared.plan.QueryPlan.{QueryPlan}
use Rattle.ranking_model.specs.Plan.{plan_of}
use Rattle.ranking_model.specs.Search.{prefixes_granted, query_data}
use Rattle.index_model.specs.Flat.{numbered_flat}
use Rattle.run_audit.specs.Private.Places.{Advances}
use Rattle.run_audit.specs.Private.Texts.{first_part_of, reports_at, rows_at}
use Rattle.run_audit.proofs.audit.check_query.Goals as goal

pub returns-clause-run : goal.returns-clause-run
returns-clause-run g c =
    let index = c.args.index.now.index in
    let search = c.args.search.now in
    let is : c.in_ok-plan.plan ≡ plan_of (length index.names) (numbered_flat index) c.args.query.now.terms
    = c.in_ok-plan.ensures.plan ∙ ap (λ (terms : List QueryTerm). plan_of (length index.names) (numbered_flat index) terms) c.as_slice.ensures in
    subst (λ (plan : QueryPlan). OnOk c.check_budgets.result (Advances c.args.given.now.run.now c.args.places.now.run c.check_budgets.new.places.run
    (rows_at index.names plan search.k search.tag.now (query_data c.args.query.now) (first_part_of search.budgets.now) (prefixes_granted search.budgets.now plan)))) is c.check_budgets.ensures.run

pub returns-clause-reports : goal.returns-clause-reports
returns-clause-reports g c =
    let index = c.args.index.now.index in
    let search = c.args.search.now in
    let is : c.in_ok-plan.plan ≡ plan_of (length index.names) (numbered_flat index) c.args.query.now.terms
    = c.in_ok-plan.ensures.plan ∙ ap (λ (terms : List QueryTerm). plan_of (length index.names) (numbered_flat index) terms) c.as_slice.ensures in
    subst (λ (plan : QueryPlan). OnOk c.check_budgets.result (Advances c.args.given.now.reports.now c.args.places.now.reports c.check_budgets.new.places.reports
    (reports_at plan search.k (query_data c.args.query.now) (prefixes_granted search.budgets.now plan)))) is c.check_budgets.ensures.reports
