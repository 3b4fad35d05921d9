use Rattle.shared_lemmas.proofs.Common.{◌∙◌, ◌≤◌, ap, subst, List, All}
use Rattle.jass_base.specs.declared.query_term.QueryTerm.{QueryTerm}
use Rattle.session_engine.specs.Plans.{query_heads}
use Rattle.session_engine.proofs.First.{planned}
use Rattle.session_engine.proofs.session.plan_of.Goals as goal

pub returns : goal.returns
returns g c = planned (g.S.Source.index c.args.source.now) c.args.query.now.terms c.as_slice-2.result.now c.new.result c.requires
    (subst (λ (ns : List QueryTerm). All (λ (n : QueryTerm). n.times ≤ 255) ns) c.as_slice.ensures c.in_ok-heads.ensures.times)
    (c.as_slice-2.ensures.value ∙ c.in_ok-heads.ensures.heads ∙ ap (query_heads (g.S.Source.index c.args.source.now)) c.as_slice.ensures) c.new.ensures
