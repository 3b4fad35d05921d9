-- The collection that a seed stands for, and the queries behind it, on which the engine is tried. This project's.
use Rattle.std.specs.Prelude.{ℕ, zero, suc, ◌+◌, ◌*◌, ◌/◌, ◌%◌, ◌^◌, ◌==◌, nat_lt, List, [], ◌∷◌, ◌++◌, length, map, sum_by, replicate, decimal, codes, if◌then◌else◌}
use Rattle.std.specs.List.{range_with_len}
use Rattle.jass_base.specs.declared.posting.Posting.{Posting}
use Rattle.jass_base.specs.Ciff.{HeaderData, ListData, DocData, CollectionData}
use Rattle.trial_data.specs.Generator.{next_state, drawn}

-- ---- the postings of a term

-- postings that were drawn, and the state behind them
pub record DrawnPostings : Type 0 where
  pub postings : List Posting
  pub state : ℕ

-- how often a term stands in a document: from 1 to 8 times, and more often seldom
abbrev pub tf_of : ℕ → ℕ
tf_of number = 1 + (number % 64) ^ 2 / 512

-- the posting that two draws give: the first is how many of the documents from one on are passed over, which for the term j is
-- at most 2 * j; the second is the tf
abbrev pub posting_behind : ℕ → ℕ → ℕ → Posting
posting_behind term from state = record {
  doc = from + drawn (next_state state) % (2 * term + 1);
  tf = tf_of (drawn (next_state (next_state state)));
}

-- no posting: the draw for its document ends the term
abbrev pub none_behind : ℕ → DrawnPostings
none_behind state = record { postings = []; state = next_state state }

abbrev pub put_posting : Posting → DrawnPostings → DrawnPostings
put_posting p later = record { postings = p ∷ later.postings; state = later.state }

-- the postings of a term in the documents from one on, of which there are at most so many, up to the first draw that gives no
-- document
abbrev pub postings_from : ℕ → ℕ → ℕ → ℕ → ℕ → DrawnPostings
postings_from docs term zero from state = none_behind state
postings_from docs term (suc left) from state =
    if nat_lt (posting_behind term from state).doc docs
    then put_posting (posting_behind term from state)
    (postings_from docs term left ((posting_behind term from state).doc + 1) (next_state (next_state state)))
    else none_behind state

-- all postings of a term
unfoldable pub term_postings : ℕ → ℕ → ℕ → DrawnPostings
term_postings docs term state = postings_from docs term docs 0 state

-- ---- the lists

-- lists that were drawn, and the state behind them
pub record DrawnLists : Type 0 where
  pub lists : List ListData
  pub state : ℕ

abbrev pub term_name : ℕ → List ℕ
term_name term = codes "t" ++ decimal term

-- the sum of the tf of postings
abbrev pub tf_sum : List Posting → ℕ
tf_sum postings = sum_by (λ (p : Posting). p.tf) postings

-- the list of a term: df counts its postings, cf sums their tf
abbrev pub list_with : ℕ → List Posting → ListData
list_with term postings =
    record { term = term_name term; df = length postings; cf = tf_sum postings; postings = postings }

abbrev pub put_list : ListData → DrawnLists → DrawnLists
put_list l later = record { lists = l ∷ later.lists; state = later.state }

-- the lists of so many terms from one on
abbrev pub lists_from : ℕ → ℕ → ℕ → ℕ → DrawnLists
lists_from docs zero term state = record { lists = []; state = state }
lists_from docs (suc terms) term state =
    put_list (list_with term (term_postings docs term state).postings)
    (lists_from docs terms (term + 1) (term_postings docs term state).state)

-- ---- the collection

abbrev pub doc_name : ℕ → List ℕ
doc_name doc = codes "D" ++ decimal doc

-- how often a list's term stands in a document
abbrev pub tf_in : ℕ → List Posting → ℕ
tf_in doc postings = sum_by (λ (p : Posting). if p.doc == doc then p.tf else 0) postings

-- the length of a document: how often all terms stand in it
abbrev pub doc_length : List ListData → ℕ → ℕ
doc_length lists doc = sum_by (λ (l : ListData). tf_in doc l.postings) lists

abbrev pub doc_with : List ListData → ℕ → DocData
doc_with lists doc = record { name = doc_name doc; length = doc_length lists doc }

abbrev pub header_with : ℕ → List ListData → HeaderData
header_with docs lists = record {
  version = 1;
  total_lists = length lists;
  total_docs = docs;
  total_terms = sum_by (λ (l : ListData). l.cf) lists;
  average = replicate 8 0;
  description = codes "trial";
}

abbrev pub collection_with : ℕ → List ListData → CollectionData
collection_with docs lists = record {
  header = header_with docs lists;
  lists = lists;
  docs = map (doc_with lists) (range_with_len 0 docs);
}

-- the collection of a seed, with so many documents and terms
unfoldable pub trial_collection : ℕ → ℕ → ℕ → CollectionData
trial_collection seed docs terms = collection_with docs (lists_from docs terms 0 seed).lists

-- the state behind its last term
unfoldable pub trial_state : ℕ → ℕ → ℕ → ℕ
trial_state seed docs terms = (lists_from docs terms 0 seed).state

-- ---- the queries

-- the state behind a query
abbrev pub query_state : ℕ → ℕ
query_state state = next_state (next_state (next_state state))

-- the words of a query: three terms, each by a draw
abbrev pub query_words : ℕ → ℕ → List (List ℕ)
query_words terms state =
    term_name (drawn (next_state state) % terms)
    ∷ term_name (drawn (next_state (next_state state)) % terms)
    ∷ term_name (drawn (next_state (next_state (next_state state))) % terms)
    ∷ []

-- the words of so many queries behind a state
abbrev pub queries_from : ℕ → ℕ → ℕ → List (List (List ℕ))
queries_from terms zero state = []
queries_from terms (suc count) state = query_words terms state ∷ queries_from terms count (query_state state)

-- the queries of a trial, drawn behind its collection
unfoldable pub trial_queries : ℕ → ℕ → ℕ → ℕ → List (List (List ℕ))
trial_queries seed docs terms count = queries_from terms count (trial_state seed docs terms)
