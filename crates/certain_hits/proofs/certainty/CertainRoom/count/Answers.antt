use Rattle.shared_lemmas.proofs.Common.{◌≡◌, ◌∙◌, List, Option, option_map, ap, arith, count_by, length, length-take}
use Rattle.jass_base.specs.declared.answer.Hit.{Hit}
use Rattle.ranking_model.specs.Order.{sorted}
use Rattle.ranking_model.specs.Scores.{first_ranked, hits_from, rank_cmp}
use Rattle.session_scores.specs.Scores.{scores_of}
use Rattle.certain_hits.specs.Private.Reach.{hit_of}
use Rattle.certain_hits.specs.Rule.{reaches, rival, stands_ahead}
use Rattle.certain_hits.proofs.certainty.CertainRoom.count.Goals as goal

pub count_ahead-requires : goal.count_ahead-requires
count_ahead-requires g c =
    let scores = scores_of c.args.scores.now c.args.pool.now in
    let is : c.hits.result.now ≡ first_ranked scores c.args.self.now = c.hits.ensures c.args.pool.now c.requires.settled ∙ ap (first_ranked scores) c.requires.asked in
    let size = ap (λ (l : List Hit). length l) is in
    let few = length-take c.args.self.now (sorted rank_cmp (hits_from 0 scores)) in
    omega (arith, size, few, c.self.ranges)

pub returns-clause-count : goal.returns-clause-count
returns-clause-count g c =
    let scores = scores_of c.args.scores.now c.args.pool.now in
    let limits = g.L.Limits.limits c.args.limits.now in
    let is : c.hits.result.now ≡ first_ranked scores c.args.self.now = c.hits.ensures c.args.pool.now c.requires.settled ∙ ap (first_ranked scores) c.requires.asked in
    let best : option_map hit_of c.last-rival.result ≡ rival c.args.self.now limits scores = c.last-rival.ensures.last (reaches limits scores) c.args.self.now (omega (arith, c.offer_all.ensures.count, c.clear.ensures.count, c.self.invariant.count, c.self.view_is)) c.offer_all.ensures.holds in
    c.count_ahead.ensures ∙ ap (λ (o : Option Hit). count_by (stands_ahead o) c.hits.result.now) best ∙ ap (count_by (stands_ahead (rival c.args.self.now limits scores))) is
