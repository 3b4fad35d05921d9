use Rattle.std.proofs.Common.{◌≡◌, ◌<◌, ◌+◌, ℕ, Bool, List, length, All, arith, if◌then◌else◌, sym, ap, subst, ◌∙◌}
use Rattle.jass_base.specs.declared.answer.Hit.{Hit}
use Rattle.jass_base.specs.declared.query_term.QueryTerm.{QueryTerm}
use Rattle.ranking_model.specs.declared.plan.QueryPlan.{QueryPlan}
use Rattle.ranking_model.specs.Scores.{scores_after, top_k}
use Rattle.max_score.specs.Searches.{exhaustive_answer, query_postings}
use Rattle.jass_top.specs.ExhaustMeaning.{postings_of_query}
use Rattle.jass_top.specs.SearchMeaning.{plan_over_index}
use Rattle.jass_top.proofs.Below.{numbered_flat, query_data}
use Rattle.jass_top.proofs.Exhausted.{postings_same}
use Rattle.jass_top.proofs.Untouched.{no_side, not_stepped}
use Rattle.jass_top.proofs.exhaust_queries.gather_query.Goals as goal

pub returns-in-Err-clause-steps : goal.returns-in-Err-clause-steps
returns-in-Err-clause-steps g c = not_stepped c.args.steps.now (postings_of_query (g.S.Source.index c.args.source.now) (query_data c.args.query))

pub returns-in-Err-clause-run : goal.returns-in-Err-clause-run
returns-in-Err-clause-run g c = no_side c.args.run.now _ _ _ (λ is. cc)

pub returns-in-Err-clause-out : goal.returns-in-Err-clause-out
returns-in-Err-clause-out g c = no_side c.args.out.now _ _ _ (λ is. cc)

pub gather_exhausted-gathered-requires : goal.gather_exhausted-gathered-requires
gather_exhausted-gathered-requires g c =
    let index = (g.S.Source.index c.args.source.now) in
    let plan : QueryPlan = plan_over_index index (query_data c.args.query) in
    let n = length plan.segments in
    let docs : length (scores_after n plan) ≡ length index.names
    = c.the_ranking_has_documents_of_the_scores.ensures.all n plan ∙ c.a_plan_has_the_segments_of_its_postings.ensures.docs (length index.names) (numbered_flat index) c.args.query.terms in
    let inside : All (λ (hit : Hit). hit.doc < length index.names) (top_k n plan c.args.k)
    = subst (λ (d : ℕ). All (λ (hit : Hit). hit.doc < d) (top_k n plan c.args.k)) docs (c.the_ranking_has_documents_of_the_scores.ensures.documents (scores_after n plan) c.args.k) in
    let hits : c.hits.result.now ≡ top_k n plan c.args.k = c.hits.ensures ∙ c.answer.ensures.hits ∙ (λ i. exhaustive_answer index (c.in-Ok.ensures.terms i) (c.in-Ok.ensures.k i)) in
    subst (λ (hits : List Hit). All (λ (hit : Hit). hit.doc < length index.names) hits) (sym hits) inside

pub returns-in-Ok-gathered-clause-steps : goal.returns-in-Ok-gathered-clause-steps
returns-in-Ok-gathered-clause-steps g c =
    let index = (g.S.Source.index c.args.source.now) in
    let terms : query_postings index c.in-Ok.search.terms ≡ postings_of_query index (query_data c.args.query)
    = ap (λ (ts : List QueryTerm). query_postings index ts) c.in-Ok.ensures.terms ∙ postings_same c.a_query_weighs_its_segments.ensures index (query_data c.args.query) in
    let steps : c.answer.new.steps ≡ c.args.steps.now + postings_of_query index (query_data c.args.query)
    = c.answer.ensures.steps ∙ ap (λ (b : Bool). c.args.steps.now + (if b then 0 else query_postings index c.in-Ok.search.terms)) c.in-Ok.ensures.unanswered ∙ ap (λ (n : ℕ). c.args.steps.now + n) terms in
    steps

pub returns-clause-steps : goal.returns-clause-steps
returns-clause-steps g c =
    let index = (g.S.Source.index c.args.source.now) in
    let terms : query_postings index c.in-Ok.search.terms ≡ postings_of_query index (query_data c.args.query)
    = ap (λ (ts : List QueryTerm). query_postings index ts) c.in-Ok.ensures.terms ∙ postings_same c.a_query_weighs_its_segments.ensures index (query_data c.args.query) in
    let steps : c.answer.new.steps ≡ c.args.steps.now + postings_of_query index (query_data c.args.query)
    = c.answer.ensures.steps ∙ ap (λ (b : Bool). c.args.steps.now + (if b then 0 else query_postings index c.in-Ok.search.terms)) c.in-Ok.ensures.unanswered ∙ ap (λ (n : ℕ). c.args.steps.now + n) terms in
    (omega (arith, steps), omega (arith, steps))
