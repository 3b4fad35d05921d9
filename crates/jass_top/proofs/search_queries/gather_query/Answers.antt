use Rattle.std.proofs.Common.{◌+◌, ◌≤◌, ℕ, subst, ap, ◌∙◌}
use Rattle.jass_top.proofs.Below.{Query, need_of, query_data}
use Rattle.jass_top.specs.SearchMeaning.{search_until}
use Rattle.jass_top.specs.SearchTexts.{stops_reports, stops_run, stops_steps}
use Rattle.jass_top.specs.Private.Engines.{chain_of}
use Rattle.jass_top.proofs.Engines.{has_chain, has_promise}
use Rattle.jass_top.proofs.Pools.{closed}
use Rattle.jass_top.proofs.Untouched.{no_side, not_stepped, side_as, side_wrapped}
use Rattle.jass_top.proofs.search_queries.gather_query.Goals as goal

pub returns-in-Ok-gathered-clause-ready : goal.returns-in-Ok-gathered-clause-ready
returns-in-Ok-gathered-clause-ready g c =
    let index = g.S.Source.index c.args.source.now in let engine = c.gather_budgets-gathered.new.engine in let pool = c.gather_budgets-gathered.new.pool in
    closed index (need_of index c.args.query.terms) c.args.pool.now c.open.new.pool pool c.close.new.pool (chain_of engine) (chain_of c.in-Ok.engine) c.requires.ready c.in-Ok.ensures.spare c.gather_budgets-gathered.ensures.leaves c.close.ensures.chains c.close.ensures.spare
    (has_chain c.a_standing_session_has_its_chain.ensures.in_use c.a_standing_search_has_its_chain.ensures.in_use engine index pool c.gather_budgets-gathered.ensures.stands)
    (has_promise c.a_standing_session_has_its_chain.ensures.promise c.a_standing_search_has_its_chain.ensures.promise engine index pool c.gather_budgets-gathered.ensures.stands ∙ ap (λ (q : Query). need_of index q.terms) (c.gather_budgets-gathered.ensures.same.query ∙ c.in-Ok.ensures.query))

pub returns-in-Err-clause-ready : goal.returns-in-Err-clause-ready
returns-in-Err-clause-ready g c =
    let index = g.S.Source.index c.args.source.now in let engine = c.gather_budgets-gathered.new.engine in let pool = c.gather_budgets-gathered.new.pool in
    closed index (need_of index c.args.query.terms) c.args.pool.now c.open.new.pool pool c.close.new.pool (chain_of engine) (chain_of c.in-Ok.engine) c.requires.ready c.in-Ok.ensures.spare c.gather_budgets-gathered.ensures.leaves c.close.ensures.chains c.close.ensures.spare
    (has_chain c.a_standing_session_has_its_chain.ensures.in_use c.a_standing_search_has_its_chain.ensures.in_use engine index pool c.gather_budgets-gathered.ensures.stands)
    (has_promise c.a_standing_session_has_its_chain.ensures.promise c.a_standing_search_has_its_chain.ensures.promise engine index pool c.gather_budgets-gathered.ensures.stands ∙ ap (λ (q : Query). need_of index q.terms) (c.gather_budgets-gathered.ensures.same.query ∙ c.in-Ok.ensures.query))

pub close-requires : goal.close-requires
close-requires g c =
    has_chain c.a_standing_session_has_its_chain.ensures.in_use c.a_standing_search_has_its_chain.ensures.in_use c.gather_budgets-gathered.new.engine (g.S.Source.index c.args.source.now) c.gather_budgets-gathered.new.pool c.gather_budgets-gathered.ensures.stands

pub returns-in-Err-NoMemory-clause-steps : goal.returns-in-Err-NoMemory-clause-steps
returns-in-Err-NoMemory-clause-steps g c = not_stepped c.args.steps.now (stops_steps (g.S.Source.index c.args.source.now) (search_until c.args.until c.args.k c.args.budgets.now c.args.tag.now) (query_data c.args.query))

pub returns-in-Err-NoMemory-clause-run : goal.returns-in-Err-NoMemory-clause-run
returns-in-Err-NoMemory-clause-run g c = no_side c.args.run.now _ _ _ (λ is. cc)

pub returns-in-Err-NoMemory-clause-out : goal.returns-in-Err-NoMemory-clause-out
returns-in-Err-NoMemory-clause-out g c = no_side c.args.out.now _ _ _ (λ is. cc)

pub returns-in-Ok-gathered-clause-steps : goal.returns-in-Ok-gathered-clause-steps
returns-in-Ok-gathered-clause-steps g c =
    c.in-Ok-gathered.ensures.steps
    ∙ (λ i. c.args.steps.now + stops_steps (g.S.Source.index c.args.source.now) (search_until (c.in-Ok.ensures.until i) (c.in-Ok.ensures.k i) c.args.budgets.now c.args.tag.now) (query_data (c.in-Ok.ensures.query i)))

pub returns-in-Ok-gathered-clause-run : goal.returns-in-Ok-gathered-clause-run
returns-in-Ok-gathered-clause-run g c =
    side_as (λ i. stops_run (g.S.Source.index c.args.source.now) (search_until (c.in-Ok.ensures.until i) (c.in-Ok.ensures.k i) c.args.budgets.now c.args.tag.now) (query_data (c.in-Ok.ensures.query i))) c.in-Ok-gathered.ensures.run

pub returns-in-Ok-gathered-clause-out : goal.returns-in-Ok-gathered-clause-out
returns-in-Ok-gathered-clause-out g c =
    side_as (λ i. stops_reports (g.S.Source.index c.args.source.now) (search_until (c.in-Ok.ensures.until i) (c.in-Ok.ensures.k i) c.args.budgets.now c.args.tag.now) (query_data (c.in-Ok.ensures.query i))) c.in-Ok-gathered.ensures.out

pub returns-in-Err-clause-steps : goal.returns-in-Err-clause-steps
returns-in-Err-clause-steps g c = (
  c.in-Err.ensures.steps.0,
  subst (λ (n : ℕ). c.gather_budgets-gathered.new.steps ≤ c.args.steps.now + n)
      (λ i. stops_steps (g.S.Source.index c.args.source.now) (search_until (c.in-Ok.ensures.until i) (c.in-Ok.ensures.k i) c.args.budgets.now c.args.tag.now) (query_data (c.in-Ok.ensures.query i))) c.in-Err.ensures.steps.1,
)

pub returns-in-Err-clause-run : goal.returns-in-Err-clause-run
returns-in-Err-clause-run g c =
    side_wrapped (λ is. cc) (λ i. stops_run (g.S.Source.index c.args.source.now) (search_until (c.in-Ok.ensures.until i) (c.in-Ok.ensures.k i) c.args.budgets.now c.args.tag.now) (query_data (c.in-Ok.ensures.query i))) c.in-Err.ensures.run

pub returns-in-Err-clause-out : goal.returns-in-Err-clause-out
returns-in-Err-clause-out g c =
    side_wrapped (λ is. cc) (λ i. stops_reports (g.S.Source.index c.args.source.now) (search_until (c.in-Ok.ensures.until i) (c.in-Ok.ensures.k i) c.args.budgets.now c.args.tag.now) (query_data (c.in-Ok.ensures.query i))) c.in-Err.ensures.out
