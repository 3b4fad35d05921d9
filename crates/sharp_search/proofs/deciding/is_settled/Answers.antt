use Rattle.shared_lemmas.proofs.Common.{◌≡◌, ◌≢◌, ◌∙◌, ap, refl, sym, arith, true, false, slice_index}
use Rattle.ranking_model.specs.Scores.{first_ranked, least_untouched}
use Rattle.session_scores.specs.Scores.{scores_of}
use Rattle.sharp_bounds.specs.Rule.{are_safe_within, do_others_stay, do_untouched_stay, ranked_behind}
use Rattle.sharp_search.specs.Deciding.{limits_of}
use Rattle.sharp_search.proofs.Entering.{settles_is}
use Rattle.sharp_search.proofs.deciding.is_settled.Goals as goal

pub returns-then-not-hits_stay : goal.returns-then-not-hits_stay
returns-then-not-hits_stay c = settles_is c.args.k c.args.bound (limits_of c.args.masks.now.masks c.args.weights.now) (scores_of c.args.scores.now c.args.pool.now)
    false (do_untouched_stay c.args.k c.args.bound (first_ranked (scores_of c.args.scores.now c.args.pool.now) c.args.k) (least_untouched (scores_of c.args.scores.now c.args.pool.now)))
    (do_others_stay (slice_index (limits_of c.args.masks.now.masks c.args.weights.now)) (first_ranked (scores_of c.args.scores.now c.args.pool.now) c.args.k) (ranked_behind (scores_of c.args.scores.now c.args.pool.now) c.args.k))
    c.if-bound-eq0.false (sym c.if-not-hits_stay.true ∙ c.hits_stay.ensures) refl refl

pub returns-then-not-untouched_stay : goal.returns-then-not-untouched_stay
returns-then-not-untouched_stay c = settles_is c.args.k c.args.bound (limits_of c.args.masks.now.masks c.args.weights.now) (scores_of c.args.scores.now c.args.pool.now)
    true false (do_others_stay (slice_index (limits_of c.args.masks.now.masks c.args.weights.now)) (first_ranked (scores_of c.args.scores.now c.args.pool.now) c.args.k) (ranked_behind (scores_of c.args.scores.now c.args.pool.now) c.args.k))
    c.if-bound-eq0.false (sym c.if-not-hits_stay.false ∙ c.hits_stay.ensures) (sym c.if-not-untouched_stay.true ∙ c.untouched_stay.ensures ∙ (λ i. do_untouched_stay c.args.k c.args.bound ((c.hits.ensures c.args.pool.now c.requires.settled ∙ ap (first_ranked (scores_of c.args.scores.now c.args.pool.now)) c.requires.asked) i) (c.least_untouched.ensures i))) refl

pub returns : goal.returns
returns c = settles_is c.args.k c.args.bound (limits_of c.args.masks.now.masks c.args.weights.now) (scores_of c.args.scores.now c.args.pool.now)
    true true c.others_stay.result c.if-bound-eq0.false (sym c.if-not-hits_stay.false ∙ c.hits_stay.ensures) (sym c.if-not-untouched_stay.false ∙ c.untouched_stay.ensures ∙ (λ i. do_untouched_stay c.args.k c.args.bound ((c.hits.ensures c.args.pool.now c.requires.settled ∙ ap (first_ranked (scores_of c.args.scores.now c.args.pool.now)) c.requires.asked) i) (c.least_untouched.ensures i))) c.others_stay.ensures
