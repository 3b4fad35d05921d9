-- The place that `position` gives is that of the number, and no place means that no term has it.
use Rattle.shared_lemmas.proofs.Common.{length, eqb, refl, ap, sym, ◌∙◌, arith, rules, tests, YieldsList-from_slice, position_from_yields_List}
use Rattle.jass_base.specs.declared.query_term.QueryTerm.{QueryTerm}
use Rattle.query_reader.proofs.Limits.{place_of-some, place_of-none, named-more, named-too-often, named-too-many, named-first}
use Rattle.query_reader.proofs.tally.count_known.Goals as goal

pub returns-in-Some-checked_add : goal.returns-in-Some-checked_add
returns-in-Some-checked_add c =
    let ns = c.args.named.now.items in
    let found = position_from_yields_List (λ (n : QueryTerm). eqb n.term c.args.number) _ _ c.position.result c.position.ensures.ran (YieldsList-from_slice ns cc) (λ x b q k. search (rules, tests)) in
    let place = place_of-some _ (length ns) c.in-Some.place c.position.result found c.in-Some.is in
    named-more ns c.args.number c.args.factor c.in-Some.place c.in-Some-checked_add.times c.index_mut.result.now c.index.result.now (omega (arith, place.0, place.1)) place.1 c.index_mut.ensures.value c.index.ensures c.in-Some-checked_add.ensures c.requires

pub returns-in-None-checked_add : goal.returns-in-None-checked_add
returns-in-None-checked_add c =
    let ns = c.args.named.now.items in
    let found = position_from_yields_List (λ (n : QueryTerm). eqb n.term c.args.number) _ _ c.position.result c.position.ensures.ran (YieldsList-from_slice ns cc) (λ x b q k. search (rules, tests)) in
    let place = place_of-some _ (length ns) c.in-Some.place c.position.result found c.in-Some.is in
    (refl, named-too-often ns c.args.number c.args.factor c.in-Some.place c.index.result.now (omega (arith, place.0, place.1)) place.1 c.index.ensures c.in-None-checked_add.ensures c.requires)

pub returns-then-as_slice-eq-MOST_QUERY_TERMS : goal.returns-then-as_slice-eq-MOST_QUERY_TERMS
returns-then-as_slice-eq-MOST_QUERY_TERMS c =
    let ns = c.args.named.now.items in
    let found = position_from_yields_List (λ (n : QueryTerm). eqb n.term c.args.number) _ _ c.position.result c.position.ensures.ran (YieldsList-from_slice ns cc) (λ x b q k. search (rules, tests)) in
    (refl, named-too-many ns c.args.number c.args.factor (place_of-none _ (length ns) c.position.result found c.in-None.is) (ap length (sym c.as_slice.ensures.value) ∙ c.if-as_slice-eq-MOST_QUERY_TERMS.true))

pub returns-in-Ok : goal.returns-in-Ok
returns-in-Ok c =
    let ns = c.args.named.now.items in
    let found = position_from_yields_List (λ (n : QueryTerm). eqb n.term c.args.number) _ _ c.position.result c.position.ensures.ran (YieldsList-from_slice ns cc) (λ x b q k. search (rules, tests)) in
    named-first ns c.push.new.self.items c.args.number c.args.factor (place_of-none _ (length ns) c.position.result found c.in-None.is)
    (λ full. omega (arith, full, ap length c.as_slice.ensures.value, c.if-as_slice-eq-MOST_QUERY_TERMS.false)) (omega (arith, c.ranges.factor.fits)) c.requires c.in-Ok.ensures.items
