use Rattle.shared_lemmas.proofs.Common.{◌≡◌, ◌∙◌, arith, length, map, refl, slice_index, sym}
use Rattle.accumulator_pages.proofs.Standing.{length-values}
use Rattle.accumulator_pages.specs.Pages.{own_view}
use Rattle.session_scores.specs.Scores.{docs_of, scores_of}
use Rattle.certain_hits.specs.Private.Reach.{hit_of}
use Rattle.certain_hits.specs.Rule.{reaches}
use Rattle.certain_hits.proofs.Choosing.{missed}
use Rattle.certain_hits.proofs.Reaching.{length_raised, raised_at, reach_low}
use Rattle.certain_hits.proofs.certainty.offer_next.Goals as goal

pub returns-then-from-best-clause-holds : goal.returns-then-from-best-clause-holds
returns-then-from-best-clause-holds g c =
    let scores = scores_of c.args.scores.now c.args.pool.now in
    let limits = g.L.Limits.limits c.args.limits.now in
    let many : length scores ≡ docs_of c.args.scores.now = length-values (λ x. x.scores) c.args.scores.now.pages.docs (own_view c.args.scores.now.pages c.args.pool.now) in
    let size = length_raised scores limits in
    let low = reach_low scores limits c.args.rest c.args.doc c.requires.limits in
    missed c.args.best.now.count c.args.best.now.floor (map hit_of c.args.best.now.kept.items) (record { doc = c.args.doc; score = slice_index (reaches limits scores) c.args.doc }) (reaches limits scores)
    (omega (arith, c.requires.inside, many, size)) refl c.requires.holds
    (omega (arith, low, c.if-from-best.true, c.from.ensures, c.from-2.ensures, c.score-score.ensures))

pub limit_of-limit-requires-clause-inside : goal.limit_of-limit-requires-clause-inside
limit_of-limit-requires-clause-inside g c =
    let scores = scores_of c.args.scores.now c.args.pool.now in
    let many : length scores ≡ docs_of c.args.scores.now = length-values (λ x. x.scores) c.args.scores.now.pages.docs (own_view c.args.scores.now.pages c.args.pool.now) in
    omega (arith, c.requires.inside, many, c.requires.limits.each)

pub limit_of-limit-requires-clause-rest : goal.limit_of-limit-requires-clause-rest
limit_of-limit-requires-clause-rest g c =
    let scores = scores_of c.args.scores.now c.args.pool.now in
    let many : length scores ≡ docs_of c.args.scores.now = length-values (λ x. x.scores) c.args.scores.now.pages.docs (own_view c.args.scores.now.pages c.args.pool.now) in
    λ none. c.requires.limits.untouched c.args.doc (omega (arith, c.requires.inside, many)) (sym c.score-score.ensures ∙ none)

pub returns-clause-holds : goal.returns-clause-holds
returns-clause-holds g c =
    let scores = scores_of c.args.scores.now c.args.pool.now in
    let limits = g.L.Limits.limits c.args.limits.now in
    let many : length scores ≡ docs_of c.args.scores.now = length-values (λ x. x.scores) c.args.scores.now.pages.docs (own_view c.args.scores.now.pages c.args.pool.now) in
    let size = length_raised scores limits in
    let sum = raised_at scores limits c.requires.limits.each c.args.doc in
    c.offer.ensures.holds (reaches limits scores) (omega (arith, c.requires.inside, many, size)) (omega (arith, sum, c.from-3.ensures, c.score-score.ensures, c.limit_of-limit.ensures)) c.requires.holds
