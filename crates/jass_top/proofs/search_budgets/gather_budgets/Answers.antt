use Rattle.std.proofs.Common.{◌≡◌, ℕ, ◌+◌, take, List, get_or, refl, sym, ap, subst, ◌∙◌, arith, Err, rules}
use Rattle.jass_top.proofs.Below.{Budget, Postings, LeavesPool, granted_sum, granted_with, query_data}
use Rattle.jass_top.specs.SearchMeaning.{search_until}
use Rattle.jass_top.specs.SearchTexts.{parts_run, stops_for}
use Rattle.jass_top.specs.Private.Engines.{chain_of, granted_of, k_of, query_of, until_of}
use Rattle.jass_top.proofs.Engines.{first_part_is, prefix_is, report_end, report_turn, reported, run_end, run_turn, scored_none, scored_part, scored_whole}
use Rattle.jass_top.proofs.Sides.{up_to_none, up_to_more, up_to_failed, up_to_all}
use Rattle.jass_top.proofs.Turns.{first_small, granted_more}
use Rattle.jass_top.proofs.search_budgets.gather_budgets.Goals as goal

pub loop-budget-init : goal.loop-budget-init
loop-budget-init g c =
    let index = g.S.Source.index c.args.source.now in let engine = c.args.engine.now in
    let search = search_until (until_of engine) (k_of engine) c.args.budgets.now c.args.tag.now in let query = query_data (query_of engine) in
    record {
      part = omega (arith, c.first_part-part.ensures);
      stands = c.requires.stands;
      same = record { until = refl; query = refl; k = refl; chain = refl };
      granted = c.requires.none;
      leaves = c.calls_on_one_chain.ensures.none c.args.pool.now (chain_of engine);
      steps = omega (arith, scored_none c.a_prefix_is_resumed.ensures.prefix c.a_prefix_is_resumed.ensures.size c.the_prefix_is_the_longest.ensures.fits c.a_search_stops_as_soon_as_it_may.ensures.first index c.is_searchable.ensures engine c.args.pool.now c.requires.stands c.requires.none);
      run = up_to_none _ _ _ _ (ap (λ p. parts_run index (k_of engine) c.args.tag.now query p (stops_for index search query)) (first_part_is index (until_of engine) (k_of engine) c.args.budgets.now query ∙ sym c.first_part-part.ensures));
      out = up_to_none _ _ _ _ refl;
    }

pub returns-in_err-gather_budget-clause-steps : goal.returns-in_err-gather_budget-clause-steps
returns-in_err-gather_budget-clause-steps g c =
    let i : ℕ = c.loop-budget.budget-index in let budgets : List Budget = c.args.budgets.now in
    let far = c.in_err-gather_budget.ensures.same.until ∙ c.loop-budget.invariant.same.until in
    let same : query_of c.gather_budget.new.engine ≡ query_of c.args.engine.now = c.in_err-gather_budget.ensures.same.query ∙ c.loop-budget.invariant.same.query in
    let asked = c.in_err-gather_budget.ensures.same.k ∙ c.loop-budget.invariant.same.k in
    let granted : granted_of c.gather_budget.new.engine ≡ granted_sum (take (i + 1) budgets) = c.in_err-gather_budget.ensures.granted ∙ ap (λ n. granted_with n (get_or budgets i (Postings 0))) c.loop-budget.invariant.granted ∙ granted_more budgets i (Postings 0) c.loop-budget-test.true in
    let part = scored_part c.a_prefix_is_resumed.ensures.prefix c.a_prefix_is_resumed.ensures.size c.the_prefix_is_the_longest.ensures.fits c.a_search_stops_as_soon_as_it_may.ensures.first (g.S.Source.index c.args.source.now) c.is_searchable.ensures
    c.args.engine.now c.gather_budget.new.engine c.gather_budget.new.pool budgets (i + 1) c.in_err-gather_budget.ensures.stands far same asked granted in
    let out : c.from_residual.result ≡ Err c.in_err-gather_budget.field-0.0 = search rules in
    rw out ((omega (arith, c.in_err-gather_budget.ensures.steps, c.loop-budget.invariant.steps), omega (arith, c.in_err-gather_budget.ensures.steps, c.loop-budget.invariant.steps, part)))

pub returns-in_err-gather_budget-clause-run : goal.returns-in_err-gather_budget-clause-run
returns-in_err-gather_budget-clause-run g c =
    let i : ℕ = c.loop-budget.budget-index in let budgets : List Budget = c.args.budgets.now in
    let far = c.in_err-gather_budget.ensures.same.until ∙ c.loop-budget.invariant.same.until in
    let same : query_of c.gather_budget.new.engine ≡ query_of c.args.engine.now = c.in_err-gather_budget.ensures.same.query ∙ c.loop-budget.invariant.same.query in
    let asked = c.in_err-gather_budget.ensures.same.k ∙ c.loop-budget.invariant.same.k in
    let granted : granted_of c.gather_budget.new.engine ≡ granted_sum (take (i + 1) budgets) = c.in_err-gather_budget.ensures.granted ∙ ap (λ n. granted_with n (get_or budgets i (Postings 0))) c.loop-budget.invariant.granted ∙ granted_more budgets i (Postings 0) c.loop-budget-test.true in
    let at = prefix_is c.a_prefix_is_resumed.ensures.prefix c.a_prefix_is_resumed.ensures.size c.the_prefix_is_the_longest.ensures.fits c.a_search_stops_as_soon_as_it_may.ensures.first (g.S.Source.index c.args.source.now) c.is_searchable.ensures
    c.args.engine.now c.gather_budget.new.engine c.gather_budget.new.pool budgets (i + 1) c.in_err-gather_budget.ensures.stands far same asked granted in
    let out : c.from_residual.result ≡ Err c.in_err-gather_budget.field-0.0 = search rules in
    rw out (up_to_failed _ _ _ (run_turn (g.S.Source.index c.args.source.now) budgets c.args.engine.now c.gather_budget.new.engine i c.loop-budget-test.true far same asked at c.args.tag.now c.loop-budget.part) c.loop-budget.invariant.run c.in_err-gather_budget.ensures.run)

pub returns-in_err-gather_budget-clause-out : goal.returns-in_err-gather_budget-clause-out
returns-in_err-gather_budget-clause-out g c =
    let i : ℕ = c.loop-budget.budget-index in let budgets : List Budget = c.args.budgets.now in
    let far = c.in_err-gather_budget.ensures.same.until ∙ c.loop-budget.invariant.same.until in
    let same : query_of c.gather_budget.new.engine ≡ query_of c.args.engine.now = c.in_err-gather_budget.ensures.same.query ∙ c.loop-budget.invariant.same.query in
    let asked = c.in_err-gather_budget.ensures.same.k ∙ c.loop-budget.invariant.same.k in
    let granted : granted_of c.gather_budget.new.engine ≡ granted_sum (take (i + 1) budgets) = c.in_err-gather_budget.ensures.granted ∙ ap (λ n. granted_with n (get_or budgets i (Postings 0))) c.loop-budget.invariant.granted ∙ granted_more budgets i (Postings 0) c.loop-budget-test.true in
    let at = prefix_is c.a_prefix_is_resumed.ensures.prefix c.a_prefix_is_resumed.ensures.size c.the_prefix_is_the_longest.ensures.fits c.a_search_stops_as_soon_as_it_may.ensures.first (g.S.Source.index c.args.source.now) c.is_searchable.ensures
    c.args.engine.now c.gather_budget.new.engine c.gather_budget.new.pool budgets (i + 1) c.in_err-gather_budget.ensures.stands far same asked granted in
    let out : c.from_residual.result ≡ Err c.in_err-gather_budget.field-0.0 = search rules in
    rw out (up_to_failed _ _ _ (report_turn (g.S.Source.index c.args.source.now) budgets c.args.engine.now c.gather_budget.new.engine i c.loop-budget-test.true far same asked at (reported c.gather_budget.new.engine (g.S.Source.index c.args.source.now) c.gather_budget.new.pool c.in_err-gather_budget.ensures.stands)) c.loop-budget.invariant.out c.in_err-gather_budget.ensures.out)

pub overflow_add-part : goal.overflow_add-part
overflow_add-part g c = omega (arith, c.loop-budget.invariant.part, first_small c.args.budgets.now, c.loop-budget-test.true, c.requires.few)

pub loop-budget-preserved : goal.loop-budget-preserved
loop-budget-preserved g c =
    let i : ℕ = c.loop-budget.budget-index in let budgets : List Budget = c.args.budgets.now in
    let far = c.in_ok-gather_budget.ensures.same.until ∙ c.loop-budget.invariant.same.until in
    let same : query_of c.gather_budget.new.engine ≡ query_of c.args.engine.now = c.in_ok-gather_budget.ensures.same.query ∙ c.loop-budget.invariant.same.query in
    let asked : k_of c.gather_budget.new.engine ≡ k_of c.args.engine.now = c.in_ok-gather_budget.ensures.same.k ∙ c.loop-budget.invariant.same.k in
    let granted : granted_of c.gather_budget.new.engine ≡ granted_sum (take (i + 1) budgets) = c.in_ok-gather_budget.ensures.granted ∙ ap (λ n. granted_with n (get_or budgets i (Postings 0))) c.loop-budget.invariant.granted ∙ granted_more budgets i (Postings 0) c.loop-budget-test.true in
    let at = prefix_is c.a_prefix_is_resumed.ensures.prefix c.a_prefix_is_resumed.ensures.size c.the_prefix_is_the_longest.ensures.fits c.a_search_stops_as_soon_as_it_may.ensures.first (g.S.Source.index c.args.source.now) c.is_searchable.ensures
    c.args.engine.now c.gather_budget.new.engine c.gather_budget.new.pool budgets (i + 1) c.in_ok-gather_budget.ensures.stands far same asked granted in
    record {
      part = omega (arith, c.loop-budget.invariant.part);
      stands = c.in_ok-gather_budget.ensures.stands;
      same = record { until = far; query = same; k = asked; chain = c.in_ok-gather_budget.ensures.same.chain ∙ c.loop-budget.invariant.same.chain };
      granted = granted;
      leaves = c.calls_on_one_chain.ensures.two c.args.pool.now c.loop-budget.pool c.gather_budget.new.pool (chain_of c.args.engine.now) c.loop-budget.invariant.leaves
          (subst (LeavesPool c.loop-budget.pool c.gather_budget.new.pool) c.loop-budget.invariant.same.chain c.in_ok-gather_budget.ensures.leaves);
      steps = omega (arith, c.in_ok-gather_budget.ensures.steps, c.loop-budget.invariant.steps);
      run = up_to_more _ _ _ (run_turn (g.S.Source.index c.args.source.now) budgets c.args.engine.now c.gather_budget.new.engine i c.loop-budget-test.true far same asked at c.args.tag.now c.loop-budget.part) c.loop-budget.invariant.run c.in_ok-gather_budget.ensures.run;
      out = up_to_more _ _ _ (report_turn (g.S.Source.index c.args.source.now) budgets c.args.engine.now c.gather_budget.new.engine i c.loop-budget-test.true far same asked at
          (reported c.gather_budget.new.engine (g.S.Source.index c.args.source.now) c.gather_budget.new.pool c.in_ok-gather_budget.ensures.stands)) c.loop-budget.invariant.out c.in_ok-gather_budget.ensures.out;
    }

pub returns-clause-steps : goal.returns-clause-steps
returns-clause-steps g c =
    let engine = c.args.engine.now in
    c.loop-budget.invariant.steps
    ∙ ap (λ (n : ℕ). c.args.steps.now + n) (scored_whole c.a_prefix_is_resumed.ensures.prefix c.a_prefix_is_resumed.ensures.size c.the_prefix_is_the_longest.ensures.fits c.a_search_stops_as_soon_as_it_may.ensures.first (g.S.Source.index c.args.source.now) c.is_searchable.ensures
    engine c.loop-budget.engine c.loop-budget.pool c.args.budgets.now c.loop-budget.budget-index c.loop-budget.invariant.stands c.loop-budget.invariant.same.until c.loop-budget.invariant.same.query c.loop-budget.invariant.same.k c.loop-budget.invariant.granted c.loop-budget-test.false)

pub returns-clause-run : goal.returns-clause-run
returns-clause-run g c =
    let engine = c.args.engine.now in
    up_to_all _ (run_end (g.S.Source.index c.args.source.now) (until_of engine) (k_of engine) c.args.tag.now c.args.budgets.now (query_data (query_of engine)) c.loop-budget.part c.loop-budget.budget-index c.loop-budget-test.false) c.loop-budget.invariant.run

pub returns-clause-out : goal.returns-clause-out
returns-clause-out g c =
    let engine = c.args.engine.now in
    up_to_all _ (report_end (g.S.Source.index c.args.source.now) (until_of engine) (k_of engine) c.args.budgets.now (query_data (query_of engine)) c.loop-budget.budget-index c.loop-budget-test.false) c.loop-budget.invariant.out
