use Rattle.shared_lemmas.proofs.Common.{◌∙◌, arith, refl, sym}
use Rattle.max_score.specs.Private.Lists.{scores_in}
use Rattle.max_score.proofs.Bounds.{score_at, scores_length}
use Rattle.max_score.proofs.Walks.{gone_by}
use Rattle.max_score.proofs.walk.consider.Goals as goal

pub returns-in-Some-clause-met : goal.returns-in-Some-clause-met
returns-in-Some-clause-met c = λ docs inside met.
    let lists = c.args.lists.now in
    let score = c.in-Some.ensures.score in
    let long = scores_length docs lists in
    c.offer.ensures.stands (scores_in docs lists) met (omega (arith, long, inside)) (score.0 ∙ sym (score_at docs lists c.args.doc inside)) (omega (arith, score.1))

pub returns-in_default-clause-met : goal.returns-in_default-clause-met
returns-in_default-clause-met c = λ docs inside met. gone_by docs c.args.lists.now c.requires.bounded c.args.doc c.args.best.now met inside (c.in_default.ensures.low refl)
