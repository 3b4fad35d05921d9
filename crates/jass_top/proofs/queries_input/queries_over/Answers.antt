use Rattle.shared_lemmas.proofs.Common.{◌<◌, ◌∙◌, ℕ, List, IfOk, ap, length, map, subst, All, AllByRecursion, length-map}
use Rattle.query_reader.specs.Queries.{query_data}
use Rattle.query_reader.specs.Refusals.{Answers}
use Rattle.jass_top.proofs.Below.{QueryTerm, Query, read_query_file}
use Rattle.jass_top.proofs.queries_input.queries_over.Goals as goal

pub returns-clause-file : goal.returns-clause-file
returns-clause-file g c =
    subst (λ (terms : List (List ℕ)). Answers (map query_data) c.read_queries.result (read_query_file c.args.bytes.now c.args.mode terms)) c.tells_its_index.ensures.terms c.read_queries.ensures.file

pub returns-clause-known : goal.returns-clause-known
returns-clause-known g c =
    subst (λ (n : ℕ). IfOk c.read_queries.result (λ queries. AllByRecursion (λ (query : Query). All (λ (named : QueryTerm). named.term < n) query.terms) queries))
    (ap length c.tells_its_index.ensures.terms ∙ length-map (g.S.Source.index c.args.source.now).terms (λ t. t.term)) c.read_queries.ensures.known
