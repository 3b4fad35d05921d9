-- Small collections on which the definitions are run.
use Rattle.std.specs.Prelude.{ℕ, List, [], ◌∷◌, codes, replicate}
use Rattle.jass_base.specs.declared.posting.Posting.{Posting}
use Rattle.jass_base.specs.Ciff.{HeaderData, ListData, DocData, CollectionData}
use Rattle.ranking_model.specs.declared.entry.Entry.{Entry}
use Rattle.index_model.specs.Index.{TermData}
use Rattle.index_model.specs.Examples as model

abbrev pub posting : ℕ → ℕ → Posting
posting doc tf = record { doc = doc; tf = tf }

abbrev pub flat_entry : List ℕ → ℕ → ℕ → Entry (List ℕ)
flat_entry term doc impact = record { term = term; doc = doc; impact = impact }

abbrev pub list : List ℕ → List Posting → ListData
list term postings = record { term = term; df = 0; cf = 0; postings = postings }

abbrev pub doc : List ℕ → ℕ → DocData
doc name length = record { name = name; length = length }

abbrev pub header : HeaderData
header = record { version = 1; total_lists = 0; total_docs = 0; total_terms = 0; average = replicate 8 0; description = [] }

-- three documents of 9, 5 and 1 terms, all of them `a`
abbrev pub one_term : CollectionData
one_term = record {
  header = header;
  lists = list (codes "a") (posting 0 9 ∷ posting 1 5 ∷ posting 2 1 ∷ []) ∷ [];
  docs = doc (codes "d0") 9 ∷ doc (codes "d1") 5 ∷ doc (codes "d2") 1 ∷ [];
}

-- four documents with `cat` and `dog`; the list of `dog` stands first, and one of `elk` has no postings
abbrev pub two_terms : CollectionData
two_terms = record {
  header = header;
  lists = list (codes "dog") (posting 1 2 ∷ posting 2 3 ∷ []) ∷ list (codes "elk") [] ∷ list (codes "cat") (posting 0 3 ∷ posting 1 1 ∷ posting 3 1 ∷ []) ∷ [];
  docs = doc (codes "d0") 3 ∷ doc (codes "d1") 3 ∷ doc (codes "d2") 3 ∷ doc (codes "d3") 1 ∷ [];
}

-- those of them with postings, by rising terms
abbrev pub lists_by_term : List ListData
lists_by_term = list (codes "cat") (posting 0 3 ∷ posting 1 1 ∷ posting 3 1 ∷ []) ∷ list (codes "dog") (posting 1 2 ∷ posting 2 3 ∷ []) ∷ []

-- the terms of their index
abbrev pub terms_in_index : List TermData
terms_in_index = model.two_terms.terms
