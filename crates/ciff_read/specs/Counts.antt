-- How many postings a collection has.
use Rattle.std.specs.Prelude.{ℕ, List, length, sum_by}
use Rattle.jass_base.specs.declared.postings_list.PostingsList.{PostingsList}

-- the number of postings of all lists
abbrev pub posting_count : List PostingsList → ℕ
posting_count lists = sum_by (λ (list : PostingsList). length list.postings) lists
