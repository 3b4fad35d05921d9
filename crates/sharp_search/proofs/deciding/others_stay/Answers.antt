use Rattle.shared_lemmas.proofs.Common.{◌≡◌, ℕ, ◌-◌, ◌<◌, ◌≤◌, ◌∙◌, ap, arith, sym, subst, List, length, length-take, slice_get, slice_index, Some, option_copied}
use Rattle.jass_base.specs.declared.answer.Hit.{Hit}
use Rattle.ranking_model.specs.Order.{sorted}
use Rattle.ranking_model.specs.Scores.{first_ranked, hits_from, rank_cmp}
use Rattle.session_scores.specs.Scores.{scores_of}
use Rattle.accumulator_pages.proofs.Standing.{length-values}
use Rattle.accumulator_pages.specs.Pages.{own_view}
use Rattle.sharp_search.specs.Deciding.{limits_of}
use Rattle.sharp_search.proofs.Entering.{none_left, others_decided}
use Rattle.sharp_search.proofs.deciding.others_stay.Goals as goal

pub returns-then-hits-k : goal.returns-then-hits-k
returns-then-hits-k c =
    let scores = scores_of c.args.scores.now c.args.pool.now in
    let is : c.hits-hits.result.now ≡ first_ranked scores c.args.k = c.hits-hits.ensures c.args.pool.now c.requires.settled ∙ ap (first_ranked scores) c.requires.asked in
    none_left scores c.args.k (slice_index (limits_of c.args.masks.now.masks c.args.weights.now)) (subst (λ (l : List Hit). length l < c.args.k) is c.if-hits-k.true)

pub returns-in-Some : goal.returns-in-Some
returns-in-Some c =
    let scores = scores_of c.args.scores.now c.args.pool.now in
    let is : c.hits-hits.result.now ≡ first_ranked scores c.args.k = c.hits-hits.ensures c.args.pool.now c.requires.settled ∙ ap (first_ranked scores) c.requires.asked in
    let many : length scores ≡ c.args.docs = length-values (λ x. x.scores) c.args.scores.now.pages.docs (own_view c.args.scores.now.pages c.args.pool.now) ∙ c.requires.docs in
    let least : c.args.k ≤ length (first_ranked scores c.args.k) = subst (λ (l : List Hit). c.args.k ≤ length l) is c.if-hits-k.false in
    let size = length-take c.args.k (sorted rank_cmp (hits_from 0 scores)) in
    others_decided scores c.args.k (slice_index (limits_of c.args.masks.now.masks c.args.weights.now)) c.in-Some.last.now (omega (arith, least, size))
    (subst (λ (l : List Hit). slice_get l (length l - 1) ≡ Some c.in-Some.last.now) is (sym c.last.ensures.value ∙ ap option_copied c.in-Some.is))
    c.none_enters.result (λ t doc inside. c.none_enters.ensures.stay t doc (omega (arith, inside, many)))
    (λ f. let who = c.none_enters.ensures.enters f in (who.0, omega (arith, who.1, many), who.2))
