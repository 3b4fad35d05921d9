-- A file that was judged, as it is read again.
use Rattle.std.specs.Prelude.{ℕ, ◌≡◌, ◌<◌, ◌≤◌, ◌^◌, List, [], map, drop, length, filter, All, AllPairs, Result, Ok, Err, nat_lt, Bool}
use Rattle.std.specs.List.{sum_by}
use Rattle.std.specs.List.Sorted.{IsPermutation}
use Rattle.std.specs.Ordering.{is_lt, nat_cmp}
use Rattle.std.specs.Cmp.Lexicographic.{slice_cmp}
use Rattle.jass_base.specs.Ciff.{DocData, ListData, CollectionData}
use Rattle.jass_base.specs.Terms.{BytesRise}
use Rattle.ciff_read.specs.declared.refusal.CiffRefusal.{CiffRefusal}
use Rattle.ciff_read.specs.Assembling.{IsKeptList}
use Rattle.ciff_read.specs.Reading.{list_at, message_at, read_ciff}
use Rattle.ciff_read.specs.Refusals.{◌>>=◌}
use Rattle.ciff_read.specs.Walk.{WalkView}
use Rattle.impact_segments.specs.Collections.{lengths_of, total_of}
use Rattle.index_write.specs.Streaming.{AreNames}
use Rattle.index_import.specs.declared.list_entry.ListEntry.{ListEntry}
use Rattle.index_import.specs.Private.Surveying.{AreGiven, HoldsMost, KeepsAll, kept_entry}
use Rattle.jass_base.specs.declared.limits.TheConstants.{MOST_DOCUMENTS, MOST_POSTINGS, MOST_TERMS}

-- the term of a list comes before another's
abbrev pub earlier : ListEntry → ListEntry → Bool
earlier a b = is_lt (slice_cmp nat_cmp a.term b.term)

-- what holds of an outline whether or not the content is told
pub record IsOutlined (w : WalkView) (names : List (List ℕ)) (lengths : List ℕ) (total : ℕ) (lists : List ListEntry) : Type 0 where
  pub names_are : AreNames names
  pub as_many : length names ≡ w.docs
  pub docs : length lengths ≡ w.docs
  pub few : length lengths ≤ MOST_DOCUMENTS
  pub small : All (λ n. n < 2 ^ 31) lengths
  pub total_is : total ≡ total_of lengths
  pub given : AreGiven w.kept lists
  pub few_lists : length lists ≤ MOST_TERMS
  pub rising : AllPairs (λ (a b : ListEntry). BytesRise a.term b.term) lists
  pub postings : sum_by (λ (e : ListEntry). e.place.count) lists ≤ MOST_POSTINGS
  pub keep_all : All (KeepsAll w.docs) lists

abbrev pub nothing_there : ListData
nothing_there = record { term = []; df = 0; cf = 0; postings = [] }

abbrev pub or_nothing : Result ListData CiffRefusal → ListData
or_nothing (Ok list) = list
or_nothing (Err refusal) = nothing_there

-- the list at a place of a content of so many documents
unfoldable pub list_there : List ℕ → ℕ → ℕ → ListData
list_there content docs at = or_nothing (message_at at (drop at content) >>= list_at docs 0 [] at)

-- the list has postings
abbrev pub has_postings : ListData → Bool
has_postings list = nat_lt 0 (length list.postings)

abbrev pub names_of : List DocData → List (List ℕ)
names_of docs = map (λ (d : DocData). d.name) docs

-- the lists that entries name
abbrev pub lists_there : List ℕ → ℕ → List ListEntry → List ListData
lists_there content docs lists = map (λ (e : ListEntry). list_there content docs e.place.at) lists

-- the outline is that of the collection that reading the content gives: its documents' names and lengths, and its lists that have postings
pub record IsOutline (content : List ℕ) (docs : ℕ) (names : List (List ℕ)) (lengths : List ℕ) (lists : List ListEntry) : Type 0 where
  pub collection : CollectionData
  pub read : read_ciff content ≡ Ok collection
  pub names_are : names ≡ names_of collection.docs
  pub lengths_are : lengths ≡ lengths_of collection.docs
  pub each : All (λ (e : ListEntry). IsKeptList content docs (kept_entry e) (list_there content docs e.place.at)) lists
  pub all : IsPermutation (lists_there content docs lists) (filter has_postings collection.lists)
  pub most : All (HoldsMost content docs) lists
