use Rattle.std.proofs.Common.{◌∙◌, ap, subst, sym}
use Rattle.ranking_model.specs.Scores.{first_ranked}
use Rattle.session_engine.specs.Standing.{SessionStands, answer_over}
use Rattle.session_engine.specs.View.{SessionView}
use Rattle.session_engine.proofs.session.Session.answer.Goals as goal

pub returns : goal.returns
returns c index pool stands =
    let here = subst (λ (v : SessionView). SessionStands v index pool) (sym c.self.view_is) stands in
    c.hits.ensures pool here.settled ∙ (λ i. first_ranked (here.scored.sums i) (here.asked i)) ∙ ap (answer_over index) c.self.view_is
