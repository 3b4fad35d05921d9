use Rattle.shared_lemmas.proofs.Common.{◌≡◌, arith, length, map, subst, take_all}
use Rattle.accumulator_pages.proofs.Standing.{length-values}
use Rattle.accumulator_pages.specs.Pages.{own_view}
use Rattle.ranking_model.specs.Scores.{hits_from}
use Rattle.session_scores.specs.Scores.{docs_of, scores_of}
use Rattle.certain_hits.specs.Private.Foremost.{Holds}
use Rattle.certain_hits.specs.Private.Reach.{hit_of}
use Rattle.certain_hits.specs.Rule.{reaches}
use Rattle.certain_hits.proofs.Reaching.{length_raised}
use Rattle.certain_hits.proofs.certainty.offer_all.Goals as goal

pub returns-clause-holds : goal.returns-clause-holds
returns-clause-holds g c =
    let scores = scores_of c.args.scores.now c.args.pool.now in
    let limits = g.L.Limits.limits c.args.limits.now in
    let many : length scores ≡ docs_of c.args.scores.now = length-values (λ x. x.scores) c.args.scores.now.pages.docs (own_view c.args.scores.now.pages c.args.pool.now) in
    let size = length_raised scores limits in
    subst (λ l. Holds c.loop-doc.best.count c.loop-doc.best.floor (map hit_of c.loop-doc.best.kept.items) (hits_from 0 l))
    (take_all c.loop-doc.doc (reaches limits scores) (omega (arith, c.loop-doc-test.false, c.requires.docs, many, size))) c.loop-doc.invariant.0
