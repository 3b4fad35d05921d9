-- The terms are those of the index.
use Rattle.shared_lemmas.proofs.Common.{◌<◌, ◌∙◌, ℕ, List, All, IfOk, ap, length, subst, length-map}
use Rattle.jass_base.specs.declared.query_term.QueryTerm.{QueryTerm}
use Rattle.query_reader.specs.Refusals.{Answers}
use Rattle.session_desk.proofs.Below.{Plain, at_line, mentions_of, query_data, read_mentions}
use Rattle.session_desk.proofs.opening.query_over.Goals as goal

pub returns-clause-query : goal.returns-clause-query
returns-clause-query g c =
    subst (λ (terms : List (List ℕ)). Answers query_data c.read_terms.result (at_line 1 (read_mentions terms c.args.name.now (mentions_of Plain c.args.mentions.now)))) c.tells_its_index.ensures.terms c.read_terms.ensures.query

pub returns-clause-known : goal.returns-clause-known
returns-clause-known g c =
    subst (λ (n : ℕ). IfOk c.read_terms.result (λ query. All (λ (q : QueryTerm). q.term < n) query.terms))
    (ap length c.tells_its_index.ensures.terms ∙ length-map (g.S.Source.index c.args.source.now).terms (λ t. t.term)) c.read_terms.ensures.known
