-- Facts on the postings lists of a collection.
use Rattle.std.specs.Prelude.{ℕ, ◌≢◌, ◌<◌, All}
use Rattle.jass_base.specs.declared.postings_list.PostingsList.{PostingsList}
use Rattle.jass_base.specs.Postings.{docs_of}

-- each document of the list is below d
abbrev pub HasDocsBelow : ℕ → PostingsList → Type 0
HasDocsBelow d list = All (λ doc. doc < d) (docs_of list.postings)

-- two lists are those of two terms
abbrev pub DifferInTerm : PostingsList → PostingsList → Type 0
DifferInTerm first second = first.term ≢ second.term
