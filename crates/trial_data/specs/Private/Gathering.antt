-- The parts from which a collection is put together.
use Rattle.std.specs.Prelude.{ℕ, ◌+◌, List, [], ◌∷◌, sum_by, slice_index, slice_set}
use Rattle.jass_base.specs.declared.posting.Posting.{Posting}
use Rattle.jass_base.specs.declared.postings_list.PostingsList.{PostingsList}
use Rattle.jass_base.specs.Ciff.{ListData, DocData}
use Rattle.trial_data.specs.Trials.{doc_name}

-- the documents' lengths with the tf of postings added
abbrev pub with_postings : List ℕ → List Posting → List ℕ
with_postings lengths [] = lengths
with_postings lengths (p ∷ postings) =
    with_postings (slice_set lengths p.doc (slice_index lengths p.doc + p.tf)) postings

-- the same for the postings of lists
abbrev pub with_lists : List ℕ → List ListData → List ℕ
with_lists lengths [] = lengths
with_lists lengths (l ∷ lists) = with_lists (with_postings lengths l.postings) lists

-- the records of documents with these lengths, from a number on
abbrev pub records_from : ℕ → List ℕ → List DocData
records_from doc [] = []
records_from doc (n ∷ lengths) = record { name = doc_name doc; length = n } ∷ records_from (doc + 1) lengths

-- the sum of the lists' cf
abbrev pub cf_sum : List PostingsList → ℕ
cf_sum lists = sum_by (λ (l : PostingsList). l.cf) lists
