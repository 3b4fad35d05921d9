-- The lists of a file that are read one after the other.
use Rattle.std.specs.Prelude.{ℕ, ◌≡◌, ◌≤◌, List, length, All, AllPairs}
use Rattle.jass_base.specs.Lists.{HasDocsBelow, DifferInTerm}
use Rattle.jass_base.specs.declared.limits.TheConstants.{MOST_POSTINGS}
use Rattle.jass_base.specs.declared.postings_list.PostingsList.{PostingsList}
use Rattle.ciff_read.specs.Counts.{posting_count}

-- so many lists of a file of so many documents, which differ in their terms and have no more postings than a file has,
-- and a place among the bytes
pub record AreLists (bytes : List ℕ) (count docs : ℕ) (lists : List PostingsList) (at : ℕ) : Type 0 where
  pub within : at ≤ length bytes
  pub counted : length lists ≡ count
  pub below : All (HasDocsBelow docs) lists
  pub differ : AllPairs DifferInTerm lists
  pub few : posting_count lists ≤ MOST_POSTINGS
