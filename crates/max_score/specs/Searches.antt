-- An exhaustive search: its query, and its answer once it has been found.
use Rattle.std.specs.Prelude.{ℕ, ◌≡◌, ◌<◌, Bool, true, All, List, length, sum_by}
use Rattle.jass_base.specs.declared.answer.Hit.{Hit}
use Rattle.jass_base.specs.declared.query_term.QueryTerm.{QueryTerm}
use Rattle.ranking_model.specs.Plan.{plan_of}
use Rattle.ranking_model.specs.Postings.{AreTerms}
use Rattle.ranking_model.specs.Scores.{top_k}
use Rattle.index_model.specs.Index.{IndexData}
use Rattle.index_model.specs.Flat.{numbered_flat}
use Rattle.index_model.specs.Querying.{segments_at}
use Rattle.max_score.specs.Cursors.{postings_in}

-- the number of documents, the query's terms, how many documents are asked for, whether the answer has been found, and
-- the answer, which is empty before
pub record SearchView : Type 0 where
  pub docs : ℕ
  pub terms : List QueryTerm
  pub k : ℕ
  pub answered : Bool
  pub hits : List Hit

-- the terms are numbers of the index's terms
abbrev pub AreKnown : IndexData → List QueryTerm → Type 0
AreKnown index terms = All (λ (n : QueryTerm). n.term < length index.terms) terms

-- the first k documents after all segments of the query's plan
abbrev pub exhaustive_answer : IndexData → List QueryTerm → ℕ → List Hit
exhaustive_answer index terms k = let plan = plan_of (length index.names) (numbered_flat index) terms in top_k (length plan.segments) plan k

-- the postings of all segments of the query's terms
abbrev pub query_postings : IndexData → List QueryTerm → ℕ
query_postings index terms = sum_by (λ (n : QueryTerm). postings_in (segments_at index.terms n.term)) terms

-- the search was made over this index, for terms that it has; where it has its answer, that is the index's
pub record IsSearchOver (search : SearchView) (index : IndexData) : Type 0 where
  pub docs : search.docs ≡ length index.names
  pub terms : AreTerms search.terms
  pub known : AreKnown index search.terms
  pub answer : search.answered ≡ true → search.hits ≡ exhaustive_answer index search.terms search.k

-- the same query over as many documents
pub record IsSearchOf (old new : SearchView) : Type 0 where
  pub docs : new.docs ≡ old.docs
  pub terms : new.terms ≡ old.terms
  pub k : new.k ≡ old.k
