use Rattle.shared_lemmas.proofs.Common.{◌<◌, ◌∙◌, ℕ, List, All, ap, codes, length, subst, length-map}
use Rattle.jass_top.proofs.Below.{QueryData, QueryTerm, texts}
use Rattle.query_reader.specs.Mentions.{named_of, unknown_of, words_as_mentions}
use Rattle.jass_top.proofs.named_words.name_words.Goals as goal

pub returns-in-Ok-clause-query : goal.returns-in-Ok-clause-query
returns-in-Ok-clause-query g c =
    let words = words_as_mentions (texts c.args.words.now) in
    let query_over : List (List ℕ) → QueryData = λ terms. record { id = codes "q"; terms = named_of terms words; unknown = unknown_of terms words } in
    (λ i. record { id = c.in-Ok.ensures.id i; terms = c.in-Ok.ensures.terms i; unknown = c.in-Ok.ensures.unknown i }) ∙ ap query_over c.tells_its_index.ensures.terms

pub returns-in-Ok-clause-known : goal.returns-in-Ok-clause-known
returns-in-Ok-clause-known g c =
    subst (λ (n : ℕ). All (λ (named : QueryTerm). named.term < n) c.in-Ok.query.terms)
    (ap length c.tells_its_index.ensures.terms ∙ length-map (g.S.Source.index c.args.source.now).terms (λ t. t.term)) c.in-Ok.ensures.known
