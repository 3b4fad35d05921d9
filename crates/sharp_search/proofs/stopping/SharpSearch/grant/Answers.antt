use Rattle.shared_lemmas.proofs.Common.{◌≡◌, ◌+◌, ◌≤◌, ◌∙◌, ap, sym, subst, List, arith}
use Rattle.jass_base.specs.declared.answer.Report.{Report}
use Rattle.jass_base.specs.declared.query_term.QueryTerm.{QueryTerm}
use Rattle.ranking_model.specs.Plan.{prefix_within, size_of_first}
use Rattle.ranking_model.specs.Postings.{AreTerms}
use Rattle.segment_plan.specs.Entries.{PlanView}
use Rattle.segment_plan.specs.Shape.{HasShape}
use Rattle.session_engine.specs.Plans.{session_plan}
use Rattle.sharp_search.specs.Standing.{SharpStands}
use Rattle.sharp_search.specs.View.{SearchView}
use Rattle.sharp_search.proofs.stopping.SharpSearch.grant.Goals as goal

pub advance_to-more-requires-clause-order : goal.advance_to-more-requires-clause-order
advance_to-more-requires-clause-order g c =
    let s = c.self.inside in let index = g.S.Source.index c.args.source.now in let plan = session_plan index s.query.terms in
    let stands = subst (λ (v : SearchView). SharpStands v index c.args.pool.now) (sym c.self.view_is) c.requires.stands in
    let are : AreTerms s.query.terms = record { few = s.query.few; named = s.query.named; differ = s.query.differ } in
    let has : HasShape s.plan plan = subst (λ (p : PlanView). HasShape p plan) (sym stands.planned.arranged) (c.a_session_plan_names_its_segments.ensures.shape index s.query.terms c.is_searchable.ensures.is_well_formed are stands.planned.known) in
    let low : s.granted ≤ c.granted_with-self-inside.result = omega (arith, c.self.ranges, c.granted_with-self-inside.ensures) in
    let fits = c.the_prefix_is_the_longest.ensures.fits s.granted plan.segments in
    let more = c.the_prefix_is_the_longest.ensures.longest c.granted_with-self-inside.result (prefix_within s.granted plan.segments) plan.segments (c.the_prefix_is_the_longest.ensures.there s.granted plan.segments) (omega (arith, fits, low)) in
    let is : c.within-to.result ≡ prefix_within c.granted_with-self-inside.result plan.segments = c.within-to.ensures.many ∙ sym (c.prefixes_are_those_of_the_plan.ensures.prefix s.plan plan c.granted_with-self-inside.result has) in
    let within = stands.within in
    omega (arith, within, more, is)

pub overflow_add-before : goal.overflow_add-before
overflow_add-before g c =
    let s = c.self.inside in let index = g.S.Source.index c.args.source.now in let plan = session_plan index s.query.terms in
    let stands = subst (λ (v : SearchView). SharpStands v index c.args.pool.now) (sym c.self.view_is) c.requires.stands in
    let are : AreTerms s.query.terms = record { few = s.query.few; named = s.query.named; differ = s.query.differ } in
    let paid : s.report.postings ≡ size_of_first s.front.scored plan.segments = ap (λ (r : Report). r.postings) stands.report in
    let more : size_of_first s.front.scored plan.segments + c.advance_to-more.result ≡ size_of_first c.advance_to-more.new.front.scored plan.segments
    = subst (λ (ts : List QueryTerm). size_of_first s.front.scored (session_plan index ts).segments + c.advance_to-more.result ≡ size_of_first c.advance_to-more.new.front.scored (session_plan index ts).segments) c.as_slice-terms.ensures c.advance_to-more.ensures.postings in
    let most = c.one_entry_more_is_scored.ensures.most index s.query.terms c.advance_to-more.new.front.scored in
    let small = (c.a_session_plan_is_small.ensures index s.query.terms c.is_searchable.ensures are stands.planned.times).postings in
    omega (arith, paid, more, most, small)
