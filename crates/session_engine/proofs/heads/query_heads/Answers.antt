use Rattle.shared_lemmas.proofs.Common.{◌≤◌, arith, subst, List, All, take_all, All-more}
use Rattle.jass_base.specs.declared.query_term.QueryTerm.{QueryTerm}
use Rattle.session_engine.specs.Plans.{query_heads}
use Rattle.session_engine.proofs.Gathering.{no_term, terms_all, terms_step}
use Rattle.session_engine.proofs.heads.query_heads.Goals as goal

pub loop-named-preserved : goal.loop-named-preserved
loop-named-preserved g c =
    let same = c.loop-named.invariant.0 in (
      omega arith,
      terms_step c.loop-named.named-index c.loop-named.term_place c.args.terms.now (g.S.Source.index c.args.source.now).terms c.loop-named.heads.items c.gather_heads.new.heads.items (query_heads (g.S.Source.index c.args.source.now) c.args.terms.now)
          c.loop-named-test.true same c.in_ok-gather_heads.ensures.heads c.loop-named.invariant.1,
      All-more (λ (n : QueryTerm). n.times ≤ 255) c.args.terms.now c.loop-named.named-index no_term c.loop-named-test.true c.loop-named.invariant.2 c.in_ok-gather_heads.ensures.times,
    )

pub returns-clause-heads : goal.returns-clause-heads
returns-clause-heads g c = terms_all c.loop-named.named-index c.args.terms.now (g.S.Source.index c.args.source.now).terms c.loop-named.heads.items (query_heads (g.S.Source.index c.args.source.now) c.args.terms.now) c.loop-named-test.false c.loop-named.invariant.1

pub returns-clause-times : goal.returns-clause-times
returns-clause-times g c = subst (λ (ns : List QueryTerm). All (λ (n : QueryTerm). n.times ≤ 255) ns) (take_all c.loop-named.named-index c.args.terms.now c.loop-named-test.false) c.loop-named.invariant.2
