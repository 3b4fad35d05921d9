-- What is known of the inputs of a search that are accepted.
use Rattle.shared_lemmas.proofs.Common.{◌≡◌, ◌<◌, ◌≤◌, ℕ, List, [], ◌∷◌, map, Some, sym, ap, subst, ◌∙◌, All, AllByRecursion, get}
use Rattle.jass_base.specs.declared.limits.TheConstants.{MOST_TIMES}
use Rattle.jass_top.proofs.Below.{FileView, Files, IsFileView, Mode, QueryData, QueryTerm, texts_of}
use Rattle.index_layout.specs.View.{file_bytes}
use Rattle.query_reader.specs.Queries as reader
use Rattle.ranking_model.specs.Postings.{AreTerms}
use Rattle.run_audit.specs.Rows.{IsColumn}
use Rattle.jass_top.specs.IndexJudging.{judge_index}
use Rattle.jass_top.specs.Judging.{Accepted, Judged, judge_content}
use Rattle.jass_words.specs.declared.until.Until.{Until}
use Rattle.jass_top.specs.QueryJudging.{LineQuery, judge_queries, judge_queries_until, plain_query, with_lines, without_lines}
use Rattle.jass_top.specs.SearchMeaning.{SearchInputs, judge_search_until}
use Rattle.jass_top.proofs.Behind.{behind_found}
use Rattle.jass_top.proofs.ManyTerms.{accepted_within}

all_plain : (P : QueryData → Type 0) (asked : List reader.QueryData) → AllByRecursion (λ query. P (plain_query query)) asked → AllByRecursion P (map plain_query asked)
all_plain P [] each = tt
all_plain P (query ∷ asked) each = (each.0, all_plain P asked each.1)

-- the laws of index files and of query files
abbrev pub IndexesAreJudged : Type 0
IndexesAreJudged = (name : List ℕ) (files : Files) (v : FileView) → judge_index name (Some files) ≡ Accepted v → (content : List ℕ) × (get files name ≡ Some content) × (All (λ byte. byte < 256) content → (content ≡ file_bytes v) × IsFileView v)

abbrev pub QueriesAreJudged : Type 0
QueriesAreJudged = (name : List ℕ) (mode : Mode) (terms : List (List ℕ)) (content : List ℕ) (queries : List LineQuery) → judge_queries name mode terms content ≡ Accepted queries
    → (asked : List reader.QueryData) × reader.IsQueryFile content mode terms asked × (queries ≡ with_lines content (map plain_query asked)) × (without_lines queries ≡ map plain_query asked)

abbrev pub HaveColumns : Type 0
HaveColumns = (bytes : List ℕ) (mode : Mode) (terms : List (List ℕ)) (queries : List reader.QueryData) → reader.IsQueryFile bytes mode terms queries → AllByRecursion (λ (query : reader.QueryData). IsColumn query.id) queries

-- terms that differ, each named 1 to 255 times
abbrev pub AreAsked : List QueryTerm → Type 0
AreAsked terms = AreTerms terms × All (λ (n : QueryTerm). n.times ≤ MOST_TIMES) terms

abbrev pub HaveTerms : Type 0
HaveTerms = (bytes : List ℕ) (mode : Mode) (terms : List (List ℕ)) (queries : List reader.QueryData) → reader.IsQueryFile bytes mode terms queries → AllByRecursion (λ (query : reader.QueryData). AreAsked query.terms) queries

pub accepted_one : {A : Type 0} (x y : A) → (let j : Judged A = Accepted x in j) ≡ Accepted y → x ≡ y
accepted_one x y is = cc

-- the inputs of a search are a file's index, and queries of terms that can be asked, whose ids are columns
pub record CanBeSearched (inputs : SearchInputs) : Type 0 where
  pub view : FileView
  pub file : IsFileView view
  pub index : inputs.index ≡ view.index
  pub ids : AllByRecursion (λ (query : QueryData). IsColumn query.id) (without_lines inputs.queries)
  pub terms : AllByRecursion (λ (query : QueryData). AreAsked query.terms) (without_lines inputs.queries)

module _ (indexes : IndexesAreJudged) (asked_queries : QueriesAreJudged) (columns : HaveColumns) (terms : HaveTerms) where
  pub can_be_searched : (until : Until) (index queries : List ℕ) (mode : Mode) (files : Files) (inputs : SearchInputs) → ((content : List ℕ) → get files index ≡ Some content → All (λ byte. byte < 256) content)
      → judge_search_until until index queries mode (Some files) ≡ Accepted inputs → CanBeSearched inputs
  can_be_searched until index queries mode files inputs bytes accepted =
      let (view, indexed, rest) = behind_found (judge_index index (Some files)) _ inputs accepted in
      let (content, there, more) = behind_found (judge_content queries (Some files)) _ inputs rest in
      let (lined, read_until, made) = behind_found (judge_queries_until until queries mode (texts_of view.index.terms) content) _ inputs more in
      let read : judge_queries queries mode (texts_of view.index.terms) content ≡ Accepted lined = accepted_within until queries mode (texts_of view.index.terms) content lined read_until in
      let (stored_bytes, stored, is) = indexes index files view indexed in
      let (asked, file, lines, same) = asked_queries queries mode (texts_of view.index.terms) content lined read in
      let whole : record { index = view.index; queries = lined } ≡ inputs = accepted_one (record { index = view.index; queries = lined }) inputs made in
      let queries_are : map plain_query asked ≡ without_lines inputs.queries = sym same ∙ ap (λ (i : SearchInputs). without_lines i.queries) whole in
      record {
        view = view;
        file = (is (bytes stored_bytes stored)).1;
        index = sym (ap (λ (i : SearchInputs). i.index) whole);
        ids = subst (AllByRecursion (λ (query : QueryData). IsColumn query.id)) queries_are (all_plain (λ (query : QueryData). IsColumn query.id) asked (columns content mode (texts_of view.index.terms) asked file));
        terms = subst (AllByRecursion (λ (query : QueryData). AreAsked query.terms)) queries_are (all_plain (λ (query : QueryData). AreAsked query.terms) asked (terms content mode (texts_of view.index.terms) asked file));
      }
