use Rattle.shared_lemmas.proofs.Common.{◌∙◌, ap, subst, sym}
use Rattle.ranking_model.specs.Scores.{first_ranked}
use Rattle.sharp_search.specs.Standing.{SharpStands, answer_over}
use Rattle.sharp_search.specs.View.{SearchView}
use Rattle.sharp_search.proofs.stopping.SharpSearch.answer.Goals as goal

pub returns : goal.returns
returns c index pool stands =
    let here = subst (λ (v : SearchView). SharpStands v index pool) (sym c.self.view_is) stands in
    c.hits.ensures pool here.front.first ∙ (λ i. first_ranked (here.front.scored.sums i) (here.front.asked i)) ∙ ap (answer_over index) c.self.view_is
