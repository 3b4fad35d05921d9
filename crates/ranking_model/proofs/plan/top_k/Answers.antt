use Rattle.shared_lemmas.proofs.Common.{ℕ, List, ◌<◌, sym, ap, subst, ◌∙◌, All}
use Rattle.jass_base.specs.declared.answer.Hit.{Hit}
use Rattle.ranking_model.specs.Scores.{first_ranked}
use Rattle.ranking_model.proofs.Documents.{answer_below}
use Rattle.ranking_model.proofs.plan.top_k.Goals as goal

pub returns-clause-documents : goal.returns-clause-documents
returns-clause-documents c =
    subst (λ (hits : List Hit). All (λ (hit : Hit). hit.doc < c.args.plan.now.docs) hits)
    (sym (c.in_ok-hits.ensures ∙ ap (λ (scores : List ℕ). first_ranked scores c.args.k) (c.as_slice.ensures ∙ c.in_ok-scores.ensures.scores)))
    (answer_below c.args.count c.args.plan.now c.args.k)
