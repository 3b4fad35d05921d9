use Rattle.shared_lemmas.proofs.Common.{◌≡◌, ℕ, List, ◌∙◌, ap, sym, subst, length, length-replicate, length-map-range_with_len}
use Rattle.ranking_model.specs.Postings.{AreTerms}
use Rattle.segment_plan.specs.Entries.{PlanView, greatest_at}
use Rattle.segment_plan.specs.Shape.{HasShape}
use Rattle.session_engine.specs.Plans.{session_plan}
use Rattle.sharp_search.proofs.Heaviest.{as_defined}
use Rattle.sharp_search.proofs.weights.tables_of.Goals as goal

pub returns-clause-weights : goal.returns-clause-weights
returns-clause-weights g c =
    let index = g.S.Source.index c.args.source.now in let terms = c.args.query.now.terms in
    let are : AreTerms terms = record { few = c.args.query.now.few; named = c.args.query.now.named; differ = c.args.query.now.differ } in
    let has : HasShape c.in_ok-plan.plan (session_plan index terms) = subst (λ (p : PlanView). HasShape p (session_plan index terms)) (sym c.in_ok-plan.ensures.arranged)
    (c.a_session_plan_names_its_segments.ensures.shape index terms c.is_searchable.ensures.is_well_formed are c.requires.known) in
    c.in_ok-weights.ensures ∙ as_defined c.in_ok-plan.plan (session_plan index terms) (length c.as_slice.result.now) has
    (has.terms ∙ ap (λ (p : PlanView). p.terms) c.in_ok-plan.ensures.arranged ∙ ap length (sym c.as_slice.ensures))

pub returns-clause-each : goal.returns-clause-each
returns-clause-each g c = ap (λ (l : List ℕ). length l) c.in_ok-masks.ensures.masks ∙ length-replicate c.docs-docs.result 0 ∙ c.docs-docs.ensures

pub returns-clause-many : goal.returns-clause-many
returns-clause-many g c = ap (λ (l : List ℕ). length l) c.in_ok-weights.ensures ∙ length-map-range_with_len (λ t. greatest_at t c.in_ok-plan.plan.entries) 0 (length c.as_slice.result.now) ∙ ap length c.as_slice.ensures
