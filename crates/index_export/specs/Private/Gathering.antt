-- The parts of an index from which an export is put together.
use Rattle.std.specs.Prelude.{ℕ, List, [], map}
use Rattle.std.specs.List.{slice_index_or, sum_by}
use Rattle.jass_base.specs.Ciff.{DocData}
use Rattle.jass_base.specs.declared.posting.Posting.{Posting}
use Rattle.jass_base.specs.declared.postings_list.PostingsList.{PostingsList}
use Rattle.index_model.specs.Index.{TermData}

-- the term with a number
abbrev pub term_with : List TermData → ℕ → TermData
term_with terms number = slice_index_or terms number (record { term = []; segments = [] })

-- the postings of documents that have one impact
abbrev pub doc_postings : ℕ → List ℕ → List Posting
doc_postings impact docs = map (λ doc. record { doc = doc; tf = impact }) docs

-- the records of documents with these names
abbrev pub name_records : List (List ℕ) → List DocData
name_records names = map (λ (name : List ℕ). record { name = name; length = 0 }) names

-- the sum of the lists' cf
abbrev pub cf_sum : List PostingsList → ℕ
cf_sum lists = sum_by (λ (l : PostingsList). l.cf) lists
