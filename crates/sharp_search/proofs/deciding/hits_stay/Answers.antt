use Rattle.shared_lemmas.proofs.Common.{◌≡◌, ℕ, ◌<◌, ◌∙◌, ap, sym, subst, List, All, length, slice_index}
use Rattle.jass_base.specs.declared.answer.Hit.{Hit}
use Rattle.ranking_model.specs.Scores.{first_ranked}
use Rattle.session_scores.specs.Scores.{scores_of}
use Rattle.accumulator_pages.proofs.Standing.{length-values}
use Rattle.accumulator_pages.specs.Pages.{own_view}
use Rattle.sharp_bounds.specs.Rule.{are_safe_within}
use Rattle.sharp_search.specs.Deciding.{limits_of}
use Rattle.sharp_search.proofs.deciding.hits_stay.Goals as goal

pub order_stays-requires-clause-inside : goal.order_stays-requires-clause-inside
order_stays-requires-clause-inside c =
    let scores = scores_of c.args.scores.now c.args.pool.now in
    let is : c.hits.result.now ≡ first_ranked scores c.args.k = c.hits.ensures c.args.pool.now c.requires.settled ∙ ap (first_ranked scores) c.requires.asked in
    let many : length scores ≡ length c.args.masks.now.masks = length-values (λ x. x.scores) c.args.scores.now.pages.docs (own_view c.args.scores.now.pages c.args.pool.now) ∙ c.requires.docs ∙ sym c.requires.masks in
    subst (λ (l : List Hit). All (λ (h : Hit). h.doc < length c.args.masks.now.masks) l) (sym is)
    (subst (λ n. All (λ (h : Hit). h.doc < n) (first_ranked scores c.args.k)) many (c.the_ranking_has_documents_of_the_scores.ensures.documents scores c.args.k))

pub returns : goal.returns
returns c = c.order_stays.ensures ∙ ap (are_safe_within (slice_index (limits_of c.args.masks.now.masks c.args.weights.now)))
    (c.hits.ensures c.args.pool.now c.requires.settled ∙ ap (first_ranked (scores_of c.args.scores.now c.args.pool.now)) c.requires.asked)
