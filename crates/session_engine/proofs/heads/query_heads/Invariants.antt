use Rattle.shared_lemmas.proofs.Common.{◌≡◌, ◌≤◌, ◌++◌, drop, take, All}
use Rattle.jass_base.specs.declared.query_term.QueryTerm.{QueryTerm}
use Rattle.session_engine.specs.Plans.{heads_from, query_heads}
use Rattle.session_engine.proofs.heads.query_heads.Given as goal

abbrev pub invariant-loop-named : goal.invariant-loop-named
invariant-loop-named g l = (l.term_place ≡ l.named-index) × (l.heads.items ++ heads_from l.named-index (drop l.named-index l.terms) (g.S.Source.index l.source).terms ≡ query_heads (g.S.Source.index l.source) l.terms)
    × All (λ (n : QueryTerm). n.times ≤ 255) (take l.named-index l.terms)
