-- What the first pass over a file keeps of it.
use Rattle.std.specs.Prelude.{ℕ, ◌≡◌, ◌≢◌, ◌<◌, ◌≤◌, ◌⊎◌, [], ◌∷◌, ◌++◌, List, map, length, filter, Bool, Option, None, Result, Ok, Err, nat_lt, All, AllPairs}
use Rattle.std.specs.List.{AllZip}
use Rattle.std.specs.List.Sorted.{IsStrictlyIncreasing}
use Rattle.jass_base.specs.Ciff.{FitsList, ListData}
use Rattle.jass_base.specs.Outside.{Files, ForContent, IsMissing}
use Rattle.jass_base.specs.Postings.{HasTfInRange, docs_of}
use Rattle.jass_base.specs.declared.posting.Posting.{Posting}
use Rattle.jass_base.specs.declared.postings_list.PostingsList.{PostingsList}
use Rattle.ciff_read.specs.declared.refusal.CiffFault.{CiffFault}
use Rattle.ciff_read.specs.Assembling.{Parts, IsKeptList, collection_of}
use Rattle.ciff_read.specs.Judging.{NumberedDoc}
use Rattle.ciff_read.specs.Pieces.{KeptList, terms_kept}
use Rattle.ciff_read.specs.Reaching.{FailsReading}
use Rattle.ciff_read.specs.Reading.{read_ciff}
use Rattle.ciff_read.specs.Walk.{WalkView, HasKept, IsListAt, KeepsRanges, StandsTold}
use Rattle.impact_segments.specs.Bounds.{most_tf}
use Rattle.index_import.specs.Private.KeptPostings.{postings_in}
use Rattle.index_import.specs.declared.list_entry.ListEntry.{ListEntry}
use Rattle.index_import.specs.declared.survey.Survey.{Survey}

-- a list as a walk keeps it
abbrev pub kept_entry : ListEntry → KeptList
kept_entry e = record { term = e.term; at = e.place.at; count = e.place.count }

-- each list was given, with its number of postings
abbrev pub AreGiven : List KeptList → List ListEntry → Type 0
AreGiven kept lists = All (λ (e : ListEntry). HasKept kept e.place.at e.place.count) lists

-- the postings that are kept of a list
abbrev pub entry_postings : ListEntry → List Posting
entry_postings e = postings_in e.kept

-- postings of a list that has so many, in documents of which there are so many
pub record AreOfList (docs count : ℕ) (postings : List Posting) : Type 0 where
  pub counted : length postings ≡ count
  pub rising : IsStrictlyIncreasing (docs_of postings)
  pub tf : All HasTfInRange postings
  pub below : All (λ doc. doc < docs) (docs_of postings)

-- where postings of a list are kept, they are those of a whole list
abbrev pub KeepsAll : ℕ → ListEntry → Type 0
KeepsAll docs e = 1 ≤ length (entry_postings e) → AreOfList docs e.place.count (entry_postings e)

-- what is kept of a list at a place: the greatest term frequency, and all its postings, or none
pub record IsEntryOf (at : ℕ) (list : PostingsList) (e : ListEntry) : Type 0 where
  pub term : e.term ≡ list.term
  pub placed : e.place.at ≡ at
  pub count : e.place.count ≡ length list.postings
  pub most : e.place.most ≡ most_tf list.postings
  pub kept : (entry_postings e ≡ []) ⊎ (entry_postings e ≡ list.postings)

-- a list is kept behind others, where it has postings
abbrev pub KeepsList : ℕ → PostingsList → List ListEntry → List ListEntry → Type 0
KeepsList at list before after =
    ((length list.postings ≡ 0) × (after ≡ before))
    ⊎ ((e : ListEntry) × IsEntryOf at list e × (after ≡ before ++ e ∷ []))

-- the kept list has postings
abbrev pub has_some : KeptList → Bool
has_some k = nat_lt 0 k.count

-- a walk over the file of a name that can be asked for lists again
pub record IsReady (files : Option Files) (name : List ℕ) (w : WalkView) : Type 0 where
  pub there : ¬ IsMissing files name
  pub name_is : w.name ≡ name
  pub stands : StandsTold files w
  pub unanswered : w.answered ≡ None
  pub ranges : KeepsRanges w

-- a file was read to its end: all lists were given, whose terms differ, and all documents; kept are these, and the lists with postings, some of them whole
pub record AreKept (w : WalkView) (docs : List NumberedDoc) (lists : List ListEntry) : Type 0 where
  pub ranges : KeepsRanges w
  pub lists_are : map kept_entry lists ≡ filter has_some w.kept
  pub differ : AllPairs (λ (a b : List ℕ). a ≢ b) (terms_kept w.kept)
  pub docs_are : length docs ≡ w.docs
  pub keep_all : All (KeepsAll w.docs) lists

-- the list at an entry's place fits the documents, and it has so many postings and the greatest term frequency that the entry says, and its postings are those that were kept, where there are any
pub record HoldsMost (content : List ℕ) (docs : ℕ) (e : ListEntry) : Type 0 where
  pub list : ListData
  pub there : IsListAt content docs e.place.at list
  pub fits : FitsList docs list
  pub count : e.place.count ≡ length list.postings
  pub most : e.place.most ≡ most_tf list.postings
  pub kept : 1 ≤ length (entry_postings e) → entry_postings e ≡ list.postings

-- what is kept is that of the collection that reading the content gives
pub record IsSurvey (content : List ℕ) (w : WalkView) (docs : List NumberedDoc) (entries : List ListEntry) : Type 0 where
  pub parts : Parts
  pub read : read_ciff content ≡ Ok (collection_of parts)
  pub records : parts.records ≡ docs
  pub once : AllPairs (λ (a b : NumberedDoc). a.number ≢ b.number) docs
  pub lists : AllZip (IsKeptList content w.docs) w.kept parts.lists
  pub most : All (HoldsMost content w.docs) entries

abbrev pub Surveys : List ℕ → Result Survey CiffFault → Type 0
Surveys content (Ok s) = IsSurvey content s.walk s.docs s.lists.items
Surveys content (Err fault) = FailsReading fault (read_ciff content)

-- what is kept at a file's end is the survey, or why there is none
abbrev pub EndsSurvey : {T : Type 0} → List ℕ → WalkView → List NumberedDoc → List ListEntry → Result T CiffFault → Type 0
EndsSurvey content w docs lists (Ok done) = IsSurvey content w docs lists
EndsSurvey content w docs lists (Err fault) = FailsReading fault (read_ciff content)

abbrev pub SurveyTold : Option Files → List ℕ → Result Survey CiffFault → Type 0
SurveyTold files name result = ForContent files name (λ content. Surveys content result)
