-- The part of a collection that a query of words asks for: its lists alone. An index of these lists alone answers the query
-- as that of the whole collection does, where impacts are weights as they stand. This project's.
use Rattle.std.specs.Prelude.{ℕ, ◌≡◌, Bool, List, length, map, filter}
use Rattle.std.specs.List.{list_any}
use Rattle.std.specs.Str.{bytes_eq}
use Rattle.jass_base.specs.declared.query_term.QueryTerm.{QueryTerm}
use Rattle.jass_base.specs.Ciff.{ListData, CollectionData}
use Rattle.ranking_model.specs.Plan.{plan_of}
use Rattle.ranking_model.specs.Postings.{weighted_postings}
use Rattle.index_model.specs.Flat.{numbered_flat}
use Rattle.index_model.specs.Index.{IndexData, TermData}
use Rattle.query_reader.specs.Mentions.{named_of, unknown_of, words_as_mentions}

-- whether a term is one of some words
abbrev pub is_asked : List (List ℕ) → List ℕ → Bool
is_asked words term = list_any (λ word. bytes_eq term word) words

-- the lists of the terms that are among the words, in their order
abbrev pub asked_lists : List (List ℕ) → List ListData → List ListData
asked_lists words lists = filter (λ (l : ListData). is_asked words l.term) lists

-- a collection with these lists alone: its header and its documents stay
abbrev pub asked_of : CollectionData → List (List ℕ) → CollectionData
asked_of c words = record { header = c.header; lists = asked_lists words c.lists; docs = c.docs }

-- the texts of an index's terms, by number
abbrev pub term_texts : IndexData → List (List ℕ)
term_texts index = map (λ (t : TermData). t.term) index.terms

-- what words name in an index, in the order of first mention, and how many of them name nothing in it
abbrev pub words_named : IndexData → List (List ℕ) → List QueryTerm
words_named index words = named_of (term_texts index) (words_as_mentions words)

abbrev pub words_unknown : IndexData → List (List ℕ) → ℕ
words_unknown index words = unknown_of (term_texts index) (words_as_mentions words)

-- two indexes answer a query of words alike: they have the same names, as many words name no term, and the query has as many
-- terms with the same postings, and so the same plan
pub record AnswerAlike (words : List (List ℕ)) (one other : IndexData) : Type 0 where
  pub names : one.names ≡ other.names
  pub unknown : words_unknown one words ≡ words_unknown other words
  pub as_many : length (words_named one words) ≡ length (words_named other words)
  pub postings : weighted_postings (numbered_flat one) (words_named one words)
      ≡ weighted_postings (numbered_flat other) (words_named other words)
  pub plan : plan_of (length one.names) (numbered_flat one) (words_named one words)
      ≡ plan_of (length other.names) (numbered_flat other) (words_named other words)
