use Rattle.shared_lemmas.proofs.Common.{◌≡◌, List, ◌∷◌, ◌+◌, sym, ap, subst, ◌∙◌, arith, Err, rules, AllByRecursion, sum_by-cons}
use Rattle.jass_top.proofs.Below.{Query, query_data, AreKnown}
use Rattle.jass_top.specs.SearchMeaning.{search_until}
use Rattle.jass_top.specs.SearchTexts.{search_output, stops_steps}
use Rattle.jass_top.specs.Private.SearchRuns.{MayStop, asked_of}
use Rattle.jass_top.proofs.Sides.{up_to_none, up_to_more, up_to_failed}
use Rattle.jass_top.proofs.search_queries.gather_queries.Goals as goal

pub loop-query-init : goal.loop-query-init
loop-query-init g c =
    let index = g.S.Source.index c.args.source.now in let wanted = search_until c.args.until c.args.k c.args.budgets.now c.args.tag.now in
    let all : c.args.queries ≡ c.into_iter-query-iterator.result.rest.items = sym (c.into_iter-query-iterator.ensures.into_iter_gives.0 ∙ c.into_vec-query-items.ensures) in
    record {
      known = subst (AllByRecursion (λ (query : Query). AreKnown index query.terms)) all c.requires.known;
      few_terms = subst (AllByRecursion (MayStop c.args.until)) all c.requires.few_terms;
      ready = c.requires.ready;
      steps = ap (λ (xs : List Query). c.args.steps.now + (search_output index wanted (asked_of xs)).steps) (sym all);
      later = omega arith;
      run = up_to_none _ _ _ _ (ap (λ (xs : List Query). (search_output index wanted (asked_of xs)).content) all);
      out = up_to_none _ _ _ _ (ap (λ (xs : List Query). (search_output index wanted (asked_of xs)).text) all);
    }

pub loop-query-preserved : goal.loop-query-preserved
loop-query-preserved g c =
    let index = g.S.Source.index c.args.source.now in let wanted = search_until c.args.until c.args.k c.args.budgets.now c.args.tag.now in
    let next : c.loop-query.query-iterator.rest.items ≡ c.in-Some.query ∷ c.next.new.self.rest.items = c.in-Some.ensures.steps.0 in
    let counted : (search_output index wanted (asked_of c.loop-query.query-iterator.rest.items)).steps ≡ stops_steps index wanted (query_data c.in-Some.query) + (search_output index wanted (asked_of c.next.new.self.rest.items)).steps
    = ap (λ (xs : List Query). (search_output index wanted (asked_of xs)).steps) next ∙ sum_by-cons (stops_steps index wanted) (query_data c.in-Some.query) (asked_of c.next.new.self.rest.items) in
    record {
      known = (subst (AllByRecursion (λ (query : Query). AreKnown index query.terms)) next c.loop-query.invariant.known).1;
      few_terms = (subst (AllByRecursion (MayStop c.args.until)) next c.loop-query.invariant.few_terms).1;
      ready = c.in_ok-gather_query.ensures.ready;
      steps = omega (arith, counted, c.in_ok-gather_query.ensures.steps, c.loop-query.invariant.steps);
      later = omega (arith, c.in_ok-gather_query.ensures.steps, c.loop-query.invariant.later);
      run = up_to_more _ _ _ (ap (λ (xs : List Query). (search_output index wanted (asked_of xs)).content) next) c.loop-query.invariant.run c.in_ok-gather_query.ensures.run;
      out = up_to_more _ _ _ (ap (λ (xs : List Query). (search_output index wanted (asked_of xs)).text) next) c.loop-query.invariant.out c.in_ok-gather_query.ensures.out;
    }

pub gather_query-requires-clause-known : goal.gather_query-requires-clause-known
gather_query-requires-clause-known g c =
    let next : c.loop-query.query-iterator.rest.items ≡ c.in-Some.query ∷ c.next.new.self.rest.items = c.in-Some.ensures.steps.0 in
    (subst (AllByRecursion (λ (query : Query). AreKnown (g.S.Source.index c.args.source.now) query.terms)) next c.loop-query.invariant.known).0

pub returns-in_err-gather_query-clause-steps : goal.returns-in_err-gather_query-clause-steps
returns-in_err-gather_query-clause-steps g c =
    let index = g.S.Source.index c.args.source.now in let wanted = search_until c.args.until c.args.k c.args.budgets.now c.args.tag.now in
    let next : c.loop-query.query-iterator.rest.items ≡ c.in-Some.query ∷ c.next.new.self.rest.items = c.in-Some.ensures.steps.0 in
    let counted : (search_output index wanted (asked_of c.loop-query.query-iterator.rest.items)).steps ≡ stops_steps index wanted (query_data c.in-Some.query) + (search_output index wanted (asked_of c.next.new.self.rest.items)).steps
    = ap (λ (xs : List Query). (search_output index wanted (asked_of xs)).steps) next ∙ sum_by-cons (stops_steps index wanted) (query_data c.in-Some.query) (asked_of c.next.new.self.rest.items) in
    let added = c.in_err-gather_query.ensures.steps in
    let out : c.from_residual.result ≡ Err c.in_err-gather_query.field-0.0 = search rules in
    rw out ((omega (arith, added.0, c.loop-query.invariant.later), omega (arith, counted, added.1, c.loop-query.invariant.steps)))

pub returns-in_err-gather_query-clause-run : goal.returns-in_err-gather_query-clause-run
returns-in_err-gather_query-clause-run g c =
    let next : c.loop-query.query-iterator.rest.items ≡ c.in-Some.query ∷ c.next.new.self.rest.items = c.in-Some.ensures.steps.0 in
    let out : c.from_residual.result ≡ Err c.in_err-gather_query.field-0.0 = search rules in
    rw out (up_to_failed _ _ _ (ap (λ (xs : List Query). (search_output (g.S.Source.index c.args.source.now) (search_until c.args.until c.args.k c.args.budgets.now c.args.tag.now) (asked_of xs)).content) next) c.loop-query.invariant.run c.in_err-gather_query.ensures.run)

pub returns-in_err-gather_query-clause-out : goal.returns-in_err-gather_query-clause-out
returns-in_err-gather_query-clause-out g c =
    let next : c.loop-query.query-iterator.rest.items ≡ c.in-Some.query ∷ c.next.new.self.rest.items = c.in-Some.ensures.steps.0 in
    let out : c.from_residual.result ≡ Err c.in_err-gather_query.field-0.0 = search rules in
    rw out (up_to_failed _ _ _ (ap (λ (xs : List Query). (search_output (g.S.Source.index c.args.source.now) (search_until c.args.until c.args.k c.args.budgets.now c.args.tag.now) (asked_of xs)).text) next) c.loop-query.invariant.out c.in_err-gather_query.ensures.out)

pub gather_query-requires-clause-few_terms : goal.gather_query-requires-clause-few_terms
gather_query-requires-clause-few_terms g c =
    let next : c.loop-query.query-iterator.rest.items ≡ c.in-Some.query ∷ c.next.new.self.rest.items = c.in-Some.ensures.steps.0 in
    (subst (AllByRecursion (MayStop c.args.until)) next c.loop-query.invariant.few_terms).0
