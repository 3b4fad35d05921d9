-- What the postings of a list keep while they are gathered.
use Rattle.std.specs.Prelude.{ℕ, ◌+◌, length, ◌≡◌, ◌<◌, ◌≤◌, List, All}
use Rattle.std.specs.List.Sorted.{IsStrictlyIncreasing}
use Rattle.jass_base.specs.declared.posting.Posting.{Posting}
use Rattle.jass_base.specs.Postings.{docs_of, HasTfInRange}
use Rattle.ciff_read.specs.Judging.{last_from}
use Rattle.jass_base.specs.declared.limits.TheConstants.{MOST_DOCUMENTS, MOST_POSTINGS}

-- postings in rising order up to a last document, in a file of so many documents, behind so many postings of the lists before
pub record AreKept (docs before last : ℕ) (postings : List Posting) : Type 0 where
  pub few_docs : docs ≤ MOST_DOCUMENTS
  pub few_postings : before + length postings ≤ MOST_POSTINGS
  pub last_is : last ≡ last_from 0 postings
  pub rising : IsStrictlyIncreasing (docs_of postings)
  pub tf_in_range : All HasTfInRange postings
  pub up_to_last : All (λ doc. doc ≤ last) (docs_of postings)
  pub docs_below : All (λ doc. doc < docs) (docs_of postings)
