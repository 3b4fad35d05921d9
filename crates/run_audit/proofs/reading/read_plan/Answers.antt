use Rattle.shared_lemmas.proofs.Common.{◌≡◌, ◌≤◌, ◌^◌, ℕ, List, length, sym, ap, subst, ◌∙◌, arith}
use Rattle.ranking_model.specs.declared.posting.WeightedPosting.{WeightedPosting}
use Rattle.ranking_model.specs.Limits.{IsSmall}
use Rattle.ranking_model.specs.Order.{sorted}
use Rattle.ranking_model.specs.Plan.{plan_cmp, plan_of, plan_segments}
use Rattle.ranking_model.specs.Postings.{weighted_postings}
use Rattle.index_model.proofs.WellFormed.{well_formed}
use Rattle.index_model.specs.Flat.{numbered_flat}
use Rattle.index_model.specs.Querying.{query_segments}
use Rattle.run_audit.specs.Private.Reading.{plan_postings}
use Rattle.run_audit.proofs.Gathered.{flat_is_long, postings_long, stopped}
use Rattle.run_audit.proofs.reading.read_plan.Goals as goal

pub returns-in_err-segments-clause-steps : goal.returns-in_err-segments-clause-steps
returns-in_err-segments-clause-steps g c =
    let index = c.args.index.now.index in
    let long : length (weighted_postings (numbered_flat index) c.args.terms.now) ≡ plan_postings (query_segments index c.args.terms.now)
    = ap (λ (ps : List WeightedPosting). length ps) (c.a_query_weighs_its_segments.ensures index c.args.terms.now) ∙ postings_long (query_segments index c.args.terms.now) in
    stopped c.args.steps.now c.read_segments.new.steps _ c.from_residual.result c.from_residual.ensures.0 c.in_err-segments.ensures.steps.0 (omega (arith, long, c.in_err-segments.ensures.steps.1))

pub returns-in_err-arrange-clause-steps : goal.returns-in_err-arrange-clause-steps
returns-in_err-arrange-clause-steps g c =
    let index = c.args.index.now.index in
    let long : length (weighted_postings (numbered_flat index) c.args.terms.now) ≡ plan_postings (query_segments index c.args.terms.now)
    = ap (λ (ps : List WeightedPosting). length ps) (c.a_query_weighs_its_segments.ensures index c.args.terms.now) ∙ postings_long (query_segments index c.args.terms.now) in
    stopped c.args.steps.now c.read_segments.new.steps _ c.from_residual-in_err-arrange.result c.from_residual-in_err-arrange.ensures.0 (omega (arith, c.in_ok-segments.ensures.steps)) (omega (arith, long, c.in_ok-segments.ensures.steps))

pub returns-clause-small : goal.returns-clause-small
unfolding plan_of
returns-clause-small g c =
    let index = c.args.index.now.index in
    let is = c.is_checked.ensures in
    let made : c.from_vec.result ≡ plan_segments (weighted_postings (numbered_flat index) c.args.terms.now)
    = c.from_vec.ensures ∙ c.in_ok-arrange.ensures ∙ ap (sorted plan_cmp) c.in_ok-segments.ensures.segments ∙ sym (c.the_plan_has_the_named_segments.ensures index c.args.terms.now (well_formed index is.index) c.requires.terms) in
    let small = c.plans_are_small.ensures (length index.names) (numbered_flat index) c.args.terms.now (c.the_flat_list_is_flat.ensures.numbers index (well_formed index is.index)) c.requires.terms c.in_ok-segments.ensures.times
    (subst (λ (n : ℕ). n ≤ 2 ^ 29) (sym (flat_is_long index)) is.postings) in
    subst IsSmall (λ i. record { docs = sym c.docs.ensures i; terms = length c.args.terms.now; segments = sym made i }) small

pub returns-clause-steps : goal.returns-clause-steps
returns-clause-steps g c =
    let index = c.args.index.now.index in
    let long : length (weighted_postings (numbered_flat index) c.args.terms.now) ≡ plan_postings (query_segments index c.args.terms.now)
    = ap (λ (ps : List WeightedPosting). length ps) (c.a_query_weighs_its_segments.ensures index c.args.terms.now) ∙ postings_long (query_segments index c.args.terms.now) in
    omega (arith, long, c.in_ok-segments.ensures.steps)
