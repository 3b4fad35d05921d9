use Rattle.shared_lemmas.proofs.Common.{◌≡◌, ◌+◌, ◌≤◌, ℕ, List, take, length, get_or, sym, ap, subst, ◌∙◌, arith, slice_get-get_or, with_items_is}
use Rattle.jass_base.specs.declared.answer.Budget.{Budget}
use Rattle.jass_base.specs.declared.answer.Budget.TheVariants.{Postings}
use Rattle.jass_base.specs.declared.answer.Hit.{Hit}
use Rattle.ranking_model.specs.declared.plan_segment.PlanSegment.{PlanSegment}
use Rattle.ranking_model.specs.Plan.{granted_sum, granted_with, prefix_within, size_of_first}
use Rattle.ranking_model.specs.Report.{report_line}
use Rattle.ranking_model.specs.Search.{prefix_granted, query_data}
use Rattle.ranking_model.proofs.Documents.{scores_all}
use Rattle.trec_run.specs.declared.run_line.RunLine.{RunLine}
use Rattle.run_audit.specs.Private.Places.{Advances}
use Rattle.run_audit.specs.Rows.{hit_rows}
use Rattle.run_audit.proofs.Agreeing.{to_all, to_more}
use Rattle.run_audit.proofs.Turns.{reports_end, reports_turn, rows_end, rows_turn}
use Rattle.run_audit.proofs.budgets.check_budgets.Goals as goal

pub loop-budget-preserved : goal.loop-budget-preserved
loop-budget-preserved c =
    let i : ℕ = c.loop-budget.budget-index in
    let budgets : List Budget = c.args.search.now.budgets.now in
    let plan = c.args.plan.now in
    let count : ℕ = c.prefix_within-count.result in
    let query = query_data c.args.query.now in
    let names = c.args.index.now.index.names in
    let granted : c.granted_with-granted.result ≡ granted_sum (take (i + 1) budgets)
    = c.granted_with-granted.ensures ∙ ap (λ n. granted_with n (get_or budgets i (Postings 0))) c.loop-budget.invariant.granted
    ∙ sym (c.one_budget_more_is_granted.ensures budgets i (get_or budgets i (Postings 0)) (slice_get-get_or budgets i (Postings 0) c.loop-budget-test.true)) in
    let prefix : count ≡ prefix_within c.granted_with-granted.result plan.segments = c.prefix_within-count.ensures.prefix ∙ ap (prefix_within c.granted_with-granted.result) c.as_slice.ensures in
    let is : count ≡ prefix_granted (i + 1) budgets plan = prefix ∙ ap (λ n. prefix_within n plan.segments) granted in
    let before : length c.deref_mut-in-loop-budget.result.now ≡ c.loop-budget.work.scores.len = c.deref_mut-in-loop-budget.ensures.len in
    let size : length c.add_segments.new.scores ≡ c.loop-budget.work.scores.len
    = ap (λ (xs : List ℕ). length xs) c.add_segments.ensures ∙ scores_all count plan
    ∙ sym (ap (λ (xs : List ℕ). length xs) (c.deref_mut-in-loop-budget.ensures.value ∙ c.loop-budget.invariant.scores) ∙ scores_all c.loop-budget.scored plan) ∙ before in
    let scored = with_items_is c.loop-budget.work.scores c.add_segments.new.scores size ∙ c.add_segments.ensures in
    record {
      part = omega (arith, c.loop-budget.invariant.part);
      granted = granted;
      there = omega (arith, c.prefix_within-count.ensures.within, ap (λ (segments : List PlanSegment). length segments) c.as_slice.ensures);
      paid = subst (λ (n : ℕ). size_of_first n plan.segments ≤ c.granted_with-granted.result) (sym prefix) (c.the_prefix_is_the_longest.ensures.fits c.granted_with-granted.result plan.segments);
      scores = scored;
      room = record {
        few = c.loop-budget.invariant.room.few;
        scores = ap (λ (xs : List ℕ). length xs) scored ∙ scores_all count plan ∙ c.requires.docs;
        hits = ap (λ (hits : List Hit). length hits) (with_items_is c.loop-budget.work.hits c.answer_of.new.scratch (c.answer_of.ensures.room ∙ c.deref_mut-in-loop-budget-2.ensures.len))
            ∙ c.answer_of.ensures.room ∙ ap (λ (hits : List Hit). length hits) c.deref_mut-in-loop-budget-2.ensures.value ∙ c.loop-budget.invariant.room.hits;
      };
      within = c.in_ok-check_answer.ensures.within;
      run = to_more c.args.given.now.run.now c.args.places.now.run c.loop-budget.places.run c.check_answer.new.places.run _ _ _ _
          (rows_turn c.each_budget_has_its_prefix.ensures.from plan c.args.search.now.k query budgets i c.loop-budget-test.true count is names c.args.search.now.tag.now c.loop-budget.part)
          c.loop-budget.invariant.run
          (subst (λ (rows : List RunLine). Advances c.args.given.now.run.now c.loop-budget.places.run c.check_answer.new.places.run rows)
          (λ x. hit_rows names query.id ((c.as_slice-in-loop-budget.ensures ∙ c.in_ok-tag.ensures) x) 1 (c.in_ok-answer.ensures.hits x)) c.in_ok-check_answer.ensures.run);
      reports = to_more c.args.given.now.reports.now c.args.places.now.reports c.loop-budget.places.reports c.check_answer.new.places.reports _ _ _ _
          (reports_turn c.each_budget_has_its_prefix.ensures.from plan c.args.search.now.k query budgets i c.loop-budget-test.true count is)
          c.loop-budget.invariant.reports
          (subst (λ (line : List ℕ). Advances c.args.given.now.reports.now c.loop-budget.places.reports c.check_answer.new.places.reports line)
          (λ x. report_line query.id (c.in_ok-answer.ensures.report x) query.unknown) c.in_ok-check_answer.ensures.reports);
    }

pub returns-clause-run : goal.returns-clause-run
returns-clause-run c =
    to_all c.args.given.now.run.now c.args.places.now.run c.loop-budget.places.run _ _
    (rows_end c.each_budget_has_its_prefix.ensures.many c.args.plan.now c.args.search.now.k (query_data c.args.query.now) c.args.search.now.budgets.now c.loop-budget.budget-index c.loop-budget-test.false c.args.index.now.index.names c.args.search.now.tag.now c.loop-budget.part)
    c.loop-budget.invariant.run

pub returns-clause-reports : goal.returns-clause-reports
returns-clause-reports c =
    to_all c.args.given.now.reports.now c.args.places.now.reports c.loop-budget.places.reports _ _
    (reports_end c.each_budget_has_its_prefix.ensures.many c.args.plan.now c.args.search.now.k (query_data c.args.query.now) c.args.search.now.budgets.now c.loop-budget.budget-index c.loop-budget-test.false)
    c.loop-budget.invariant.reports
