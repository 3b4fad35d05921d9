use Rattle.shared_lemmas.proofs.Common.{◌+◌, List, length, drop, ap, ◌∙◌, arith, sum_by-cons, drop_all}
use Rattle.jass_base.specs.declared.query.Query.{Query}
use Rattle.ranking_model.specs.Postings.{weighted_postings}
use Rattle.ranking_model.specs.Search.{QueryData, query_data}
use Rattle.index_model.specs.Flat.{numbered_flat}
use Rattle.run_audit.specs.Audits.{queries_data, queries_postings}
use Rattle.run_audit.specs.Private.Texts.{queries_reports, queries_rows}
use Rattle.run_audit.proofs.Agreeing.{to_all, to_more}
use Rattle.run_audit.proofs.Turns.{queries_turn}
use Rattle.run_audit.proofs.audit.check_queries.Goals as goal

pub loop-query-preserved : goal.loop-query-preserved
loop-query-preserved g c =
    let index = c.args.index.now.index in
    let search = c.args.search.now in
    let turn = queries_turn c.args.queries.now c.loop-query.query-index c.query-item.result c.loop-query-test.true c.query-item.is in
    let counted = ap (queries_postings (numbered_flat index)) turn
    ∙ sum_by-cons (λ (query : QueryData). length (weighted_postings (numbered_flat index) query.terms)) (query_data c.query-item.result) (queries_data (drop (c.loop-query.query-index + 1) c.args.queries.now)) in
    record {
      steps = omega (arith, counted, c.in_ok-check_query.ensures.steps, c.loop-query.invariant.steps);
      later = omega (arith, c.in_ok-check_query.ensures.steps, c.loop-query.invariant.later);
      within = c.in_ok-check_query.ensures.within;
      room = c.in_ok-check_query.ensures.room;
      run = to_more c.args.given.now.run.now c.args.places.now.run c.loop-query.places.run c.check_query.new.places.run _ _ _ _
          (ap (queries_rows index.names (numbered_flat index) search.k search.budgets.now search.tag.now) turn) c.loop-query.invariant.run c.in_ok-check_query.ensures.run;
      reports = to_more c.args.given.now.reports.now c.args.places.now.reports c.loop-query.places.reports c.check_query.new.places.reports _ _ _ _
          (ap (queries_reports index.names (numbered_flat index) search.k search.budgets.now) turn) c.loop-query.invariant.reports c.in_ok-check_query.ensures.reports;
    }

pub returns-clause-run : goal.returns-clause-run
returns-clause-run g c =
    let index = c.args.index.now.index in
    let search = c.args.search.now in
    to_all c.args.given.now.run.now c.args.places.now.run c.loop-query.places.run _ _
    (ap (λ (queries : List Query). queries_rows index.names (numbered_flat index) search.k search.budgets.now search.tag.now (queries_data queries)) (drop_all c.loop-query.query-index c.args.queries.now c.loop-query-test.false))
    c.loop-query.invariant.run

pub returns-clause-reports : goal.returns-clause-reports
returns-clause-reports g c =
    let index = c.args.index.now.index in
    let search = c.args.search.now in
    to_all c.args.given.now.reports.now c.args.places.now.reports c.loop-query.places.reports _ _
    (ap (λ (queries : List Query). queries_reports index.names (numbered_flat index) search.k search.budgets.now (queries_data queries)) (drop_all c.loop-query.query-index c.args.queries.now c.loop-query-test.false))
    c.loop-query.invariant.reports
