-- The terms of the queries of a file are a query's.
use Rattle.shared_lemmas.proofs.Common.{◌≡◌, ℕ, ◌≤◌, List, [], ◌∷◌, sym, subst, All, AllByRecursion, AllPairs}
use Rattle.jass_base.specs.declared.limits.TheConstants.{MOST_TIMES}
use Rattle.jass_base.specs.declared.query_term.QueryTerm.{QueryTerm}
use Rattle.ranking_model.specs.Postings.{AreTerms}
use Rattle.query_reader.specs.declared.mode.Mode.{Mode}
use Rattle.query_reader.specs.Mentions.{Mention, term_number}
use Rattle.query_reader.specs.Queries.{AreQueryLines, IsQuery, IsQueryFile, QueryData, query_lines, text_of}
use Rattle.query_reader.specs.Texts.{mentions_of}
use Rattle.query_reader.proofs.Facts.{named-differ, named-some}
use Rattle.query_reader.proofs.Factors.{all-count}
use Rattle.text_lines.specs.Lines.{LineData}

abbrev Askable : QueryData → Type 0
Askable query = AreTerms query.terms × All (λ (n : QueryTerm). n.times ≤ MOST_TIMES) query.terms

one_askable : (mode : Mode) (terms : List (List ℕ)) (text : List ℕ) (query : QueryData) → IsQuery terms (mentions_of mode text) query → Askable query
one_askable mode terms text query is =
    let mentions : List Mention = mentions_of mode text in (
      record {
        few = is.few;
        named = subst (All (λ (n : QueryTerm). 1 ≤ n.times)) (sym is.named) (named-some (term_number terms) mentions (all-count mode text));
        differ = subst (AllPairs (λ (m n : QueryTerm). m.term ≡ n.term → ⊥)) (sym is.named) (named-differ (term_number terms) mentions);
      },
      is.times,
    )

lines_askable : (mode : Mode) (terms : List (List ℕ)) (lines : List LineData) (queries : List QueryData) → AreQueryLines mode terms lines queries → AllByRecursion Askable queries
lines_askable mode terms [] [] are = tt
lines_askable mode terms [] (query ∷ queries) are = absurd are
lines_askable mode terms (line ∷ lines) [] are = absurd are
lines_askable mode terms (line ∷ lines) (query ∷ queries) are = (one_askable mode terms (text_of line.bytes) query are.0.mentions, lines_askable mode terms lines queries are.1)

pub terms_are_askable : (bytes : List ℕ) (mode : Mode) (terms : List (List ℕ)) (queries : List QueryData) → IsQueryFile bytes mode terms queries → AllByRecursion Askable queries
terms_are_askable bytes mode terms queries is = lines_askable mode terms (query_lines bytes) queries is.lines
