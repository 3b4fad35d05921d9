use Rattle.shared_lemmas.proofs.Common.{◌≡◌, ℕ, ◌+◌, ◌-◌, ◌<◌, ◌≤◌, ◌∙◌, ap, sym, subst, arith, List, length, Some, slice_get, false}
use Rattle.jass_base.specs.declared.query_term.QueryTerm.{QueryTerm}
use Rattle.ranking_model.specs.Postings.{AreTerms}
use Rattle.ranking_model.specs.Scores.{bound_after}
use Rattle.index_model.specs.Index.{IndexData, IsWellFormed}
use Rattle.segment_plan.specs.declared.entry.PlanEntry.{PlanEntry}
use Rattle.segment_plan.specs.Entries.{PlanView}
use Rattle.segment_plan.specs.Shape.{HasShape}
use Rattle.session_engine.specs.Plans.{HasEntry, segment_named, session_plan}
use Rattle.session_engine.specs.Standing.{IsPlanned}
use Rattle.session_engine.proofs.Scored.{after_settle}
use Rattle.sharp_bounds.specs.Marks.{next_weights}
use Rattle.sharp_bounds.specs.Rule.{is_sharp}
use Rattle.sharp_search.proofs.Advancing.{bound_falls, lowered, still_open, weight_falls_by}
use Rattle.sharp_search.proofs.front.advance.Goals as goal

has_entry : {index : IndexData} {terms : List QueryTerm} {plan : PlanView} {n : ℕ} {entry : PlanEntry} → IsWellFormed index → AreTerms terms → IsPlanned index terms plan
    → slice_get plan.entries n ≡ Some entry → HasEntry index terms n entry
has_entry {n = n} {entry} is named planned at =
    record { is_well_formed = is; named = named; known = planned.known; at = subst (λ (p : PlanView). slice_get p.entries n ≡ Some entry) planned.arranged at }

pub overflow_sub-bound : goal.overflow_sub-bound
overflow_sub-bound g c =
    let index = g.S.Source.index c.args.source.now in let terms = c.args.terms.now in let plan = session_plan index terms in let n = c.args.front.now.scored in
    let stands = c.requires.stands in
    let has : HasShape c.args.plan.now plan = subst (λ (p : PlanView). HasShape p plan) (sym c.requires.planned.arranged) (c.a_session_plan_names_its_segments.ensures.shape index terms c.is_searchable.ensures.is_well_formed c.requires.terms c.requires.planned.known) in
    let entry : HasEntry index terms n c.entry-entry.result = has_entry c.is_searchable.ensures.is_well_formed c.requires.terms c.requires.planned c.entry-entry.ensures in
    let at = c.one_entry_more_is_scored.ensures.segment index terms n c.entry-entry.result entry in
    let inside : c.entry-entry.result.term_place < plan.terms = (let place = (c.one_entry_more_is_scored.ensures.names index terms n c.entry-entry.result entry).term_place in
    let many = has.terms ∙ ap (λ (p : PlanView). p.terms) c.requires.planned.arranged in omega (arith, place, many)) in
    let low : c.rest_bound-bound.result ≡ bound_after n plan = c.rest_bound-bound.ensures ∙ sym (c.weights_are_those_of_the_plan.ensures.bound c.args.plan.now plan n has) in
    let high : c.rest_bound-rest.result ≡ bound_after (n + 1) plan = c.rest_bound-rest.ensures ∙ sym (c.weights_are_those_of_the_plan.ensures.bound c.args.plan.now plan c.args.next has) ∙ ap (λ m. bound_after m plan) c.requires.one in
    let falls = c.one_weight_falls_with_the_bound.ensures.falls n plan (segment_named index terms c.entry-entry.result) at inside in
    let least = c.one_weight_falls_with_the_bound.ensures.least n plan (segment_named index terms c.entry-entry.result) at inside in
    bound_falls n c.rest_bound-bound.result c.rest_bound-rest.result plan c.entry-entry.result.term_place c.args.front.now.weights.items stands.weights low high falls least

pub lower-requires-clause-inside : goal.lower-requires-clause-inside
lower-requires-clause-inside g c =
    let index = g.S.Source.index c.args.source.now in let terms = c.args.terms.now in let plan = session_plan index terms in let n = c.args.front.now.scored in
    let stands = c.requires.stands in
    let has : HasShape c.args.plan.now plan = subst (λ (p : PlanView). HasShape p plan) (sym c.requires.planned.arranged) (c.a_session_plan_names_its_segments.ensures.shape index terms c.is_searchable.ensures.is_well_formed c.requires.terms c.requires.planned.known) in
    let entry : HasEntry index terms n c.entry-entry.result = has_entry c.is_searchable.ensures.is_well_formed c.requires.terms c.requires.planned c.entry-entry.ensures in
    let at = c.one_entry_more_is_scored.ensures.segment index terms n c.entry-entry.result entry in
    let inside : c.entry-entry.result.term_place < plan.terms = (let place = (c.one_entry_more_is_scored.ensures.names index terms n c.entry-entry.result entry).term_place in
    let many = has.terms ∙ ap (λ (p : PlanView). p.terms) c.requires.planned.arranged in omega (arith, place, many)) in
    let many = ap (λ (l : List ℕ). length l) stands.weights ∙ c.one_weight_falls_with_the_bound.ensures.many n plan in
    omega (arith, inside, many)

pub lower-requires-clause-by : goal.lower-requires-clause-by
lower-requires-clause-by g c =
    let index = g.S.Source.index c.args.source.now in let terms = c.args.terms.now in let plan = session_plan index terms in let n = c.args.front.now.scored in
    let stands = c.requires.stands in
    let has : HasShape c.args.plan.now plan = subst (λ (p : PlanView). HasShape p plan) (sym c.requires.planned.arranged) (c.a_session_plan_names_its_segments.ensures.shape index terms c.is_searchable.ensures.is_well_formed c.requires.terms c.requires.planned.known) in
    let entry : HasEntry index terms n c.entry-entry.result = has_entry c.is_searchable.ensures.is_well_formed c.requires.terms c.requires.planned c.entry-entry.ensures in
    let at = c.one_entry_more_is_scored.ensures.segment index terms n c.entry-entry.result entry in
    let inside : c.entry-entry.result.term_place < plan.terms = (let place = (c.one_entry_more_is_scored.ensures.names index terms n c.entry-entry.result entry).term_place in
    let many = has.terms ∙ ap (λ (p : PlanView). p.terms) c.requires.planned.arranged in omega (arith, place, many)) in
    let low : c.rest_bound-bound.result ≡ bound_after n plan = c.rest_bound-bound.ensures ∙ sym (c.weights_are_those_of_the_plan.ensures.bound c.args.plan.now plan n has) in
    let high : c.rest_bound-rest.result ≡ bound_after (n + 1) plan = c.rest_bound-rest.ensures ∙ sym (c.weights_are_those_of_the_plan.ensures.bound c.args.plan.now plan c.args.next has) ∙ ap (λ m. bound_after m plan) c.requires.one in
    let falls = c.one_weight_falls_with_the_bound.ensures.falls n plan (segment_named index terms c.entry-entry.result) at inside in
    let least = c.one_weight_falls_with_the_bound.ensures.least n plan (segment_named index terms c.entry-entry.result) at inside in
    weight_falls_by n c.rest_bound-bound.result c.rest_bound-rest.result plan c.entry-entry.result.term_place c.args.front.now.weights.items stands.weights low high falls least

pub returns-clause-stands : goal.returns-clause-stands
returns-clause-stands g c =
    let index = g.S.Source.index c.args.source.now in let terms = c.args.terms.now in let plan = session_plan index terms in let n = c.args.front.now.scored in
    let stands = c.requires.stands in
    let has : HasShape c.args.plan.now plan = subst (λ (p : PlanView). HasShape p plan) (sym c.requires.planned.arranged) (c.a_session_plan_names_its_segments.ensures.shape index terms c.is_searchable.ensures.is_well_formed c.requires.terms c.requires.planned.known) in
    let entry : HasEntry index terms n c.entry-entry.result = has_entry c.is_searchable.ensures.is_well_formed c.requires.terms c.requires.planned c.entry-entry.ensures in
    let at = c.one_entry_more_is_scored.ensures.segment index terms n c.entry-entry.result entry in
    let inside : c.entry-entry.result.term_place < plan.terms = (let place = (c.one_entry_more_is_scored.ensures.names index terms n c.entry-entry.result entry).term_place in
    let many = has.terms ∙ ap (λ (p : PlanView). p.terms) c.requires.planned.arranged in omega (arith, place, many)) in
    let low : c.rest_bound-bound.result ≡ bound_after n plan = c.rest_bound-bound.ensures ∙ sym (c.weights_are_those_of_the_plan.ensures.bound c.args.plan.now plan n has) in
    let high : c.rest_bound-rest.result ≡ bound_after (n + 1) plan = c.rest_bound-rest.ensures ∙ sym (c.weights_are_those_of_the_plan.ensures.bound c.args.plan.now plan c.args.next has) ∙ ap (λ m. bound_after m plan) c.requires.one in
    let falls = c.one_weight_falls_with_the_bound.ensures.falls n plan (segment_named index terms c.entry-entry.result) at inside in
    let least = c.one_weight_falls_with_the_bound.ensures.least n plan (segment_named index terms c.entry-entry.result) at inside in
    let scored = after_settle c.score_entries-postings.ensures.scored c.settle.ensures.stand c.settle.ensures.scores c.settle.ensures.frames c.settle.ensures.same c.settle.ensures.leaves in
    let marked = c.score_entries-postings.ensures.marked stands.marked in
    let weights : c.lower.new.weights.items ≡ next_weights c.args.next plan =
    lowered n c.rest_bound-bound.result c.rest_bound-rest.result plan c.entry-entry.result.term_place c.args.front.now.weights.items c.lower.new.weights.items stands.weights low high falls least c.lower.ensures
    (λ weight is. c.one_weight_falls_with_the_bound.ensures.segment n weight plan (segment_named index terms c.entry-entry.result) at inside is) ∙ ap (λ m. next_weights m plan) (sym c.requires.one) in
    record {
      scored = scored;
      first = c.settle.ensures.settled;
      asked = c.settle.ensures.same.k ∙ c.score_entries-postings.ensures.same.k ∙ stands.asked;
      marked = marked;
      frames = (c.score_entries-postings.ensures.places 0 (omega arith, stands.frames)).1;
      weights = weights;
      settled = c.decide-front.ensures plan has scored.sums marked (c.as_slice.ensures.value ∙ weights);
      before = subst (λ m. (i : ℕ) → i < m → is_sharp i plan c.args.k ≡ false) (sym c.requires.one) (still_open n c.args.k plan stands.before (sym stands.settled ∙ c.requires.unsettled));
    }
