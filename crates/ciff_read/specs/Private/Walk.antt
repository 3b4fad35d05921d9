-- What the giving of a piece leaves of a walk, and what it gives of a content.
use Rattle.std.specs.Prelude.{ℕ, ◌≡◌, ◌<◌, ◌≤◌, ◌+◌, List, [], ◌∷◌, ◌++◌, length, drop, true, false, All, Option, Result, Ok}
use Rattle.std.specs.List.Sorted.{IsStrictlyIncreasing}
use Rattle.jass_base.specs.CiffViews.{list_data, doc_data}
use Rattle.jass_base.specs.Lists.{HasDocsBelow}
use Rattle.jass_base.specs.Outside.{Files, ForContent}
use Rattle.ciff_read.specs.declared.refusal.CiffFault.{CiffFault}
use Rattle.ciff_read.specs.Pieces.{KeptList, list_of_file, postings_kept, terms_kept, places_kept, EndPiece, doc_of_file}
use Rattle.jass_base.specs.declared.postings_list.PostingsList.{PostingsList}
use Rattle.jass_base.specs.declared.doc_record.DocRecord.{DocRecord}
use Rattle.ciff_read.specs.Marks.{is_marked}
use Rattle.ciff_read.specs.Private.Reached.{GivesReading, MarksOf}
use Rattle.ciff_read.specs.Reading.{at_end}
use Rattle.ciff_read.specs.Seen.{is_seen}
use Rattle.whole_files.specs.Windows.{AreFrom}
use Rattle.jass_base.specs.declared.limits.TheConstants.{LONGEST_FILE, MOST_DOCUMENTS, MOST_POSTINGS, MOST_TERMS}
use Rattle.ciff_read.specs.Walk.{WalkView, HasKept, HoldsList, IsWalkOver, OneMore, kept_of}

-- the ranges of a walk, of its parts
pub record IsInRange (lists docs at given postings : ℕ) (kept : List KeptList) : Type 0 where
  pub few_lists : lists ≤ MOST_TERMS
  pub few_docs : docs ≤ MOST_DOCUMENTS
  pub counted : postings ≡ postings_kept kept
  pub few_postings : postings ≤ MOST_POSTINGS
  pub lists_given : length kept ≤ lists
  pub docs_given : given ≤ docs
  pub near : at ≤ LONGEST_FILE
  pub rising : IsStrictlyIncreasing (places_kept kept)
  pub before : All (λ (k : KeptList). k.at < at) kept

-- what the giving of a piece leaves
pub record LeavesFile (old new : WalkView) : Type 0 where
  pub name : new.name ≡ old.name
  pub lists : new.lists ≡ old.lists
  pub docs : new.docs ≡ old.docs
  pub answered : new.answered ≡ old.answered

-- what the giving of a list leaves
pub record LeavesOthers (old new : WalkView) : Type 0 where
  pub name : new.name ≡ old.name
  pub header : new.header ≡ old.header
  pub lists : new.lists ≡ old.lists
  pub docs : new.docs ≡ old.docs
  pub marks : new.marks ≡ old.marks
  pub given : new.given ≡ old.given
  pub ended : new.ended ≡ old.ended
  pub answered : new.answered ≡ old.answered
  pub forward : old.at ≤ new.at

-- the list that was given is kept, its term is new, and its documents are the file's
pub record KeepsList (old new : WalkView) (list : PostingsList) : Type 0 where
  pub kept : new.kept ≡ old.kept ++ kept_of old.at list ∷ []
  pub unseen : is_seen list.term (terms_kept old.kept) ≡ false
  pub below : HasDocsBelow old.docs list

-- a list with the number of postings that is kept for its place, in documents of the file, which the walk holds there
pub record IsListAgain (now : WalkView) (at : ℕ) (list : PostingsList) : Type 0 where
  pub count : HasKept now.kept at (length list.postings)
  pub below : HasDocsBelow now.docs list
  pub holds : HoldsList now at (list_data list)

-- the list that was given is the one at the walk's place, and the walk stands behind it
abbrev pub ListGiven : Option Files → WalkView → WalkView → Result PostingsList CiffFault → Type 0
ListGiven files old new result =
    ForContent files old.name (λ content. AreFrom content old.start old.bytes → GivesReading (λ (list : PostingsList). record { list = list_data list; end = new.at }) result (list_of_file content old.docs (postings_kept old.kept) (terms_kept old.kept) old.at))

-- what is held of a content stays so
abbrev pub StaysHeld : Option Files → WalkView → WalkView → Type 0
StaysHeld files old new = ForContent files old.name (λ content. AreFrom content old.start old.bytes → AreFrom content new.start new.bytes)

-- a walk that has given the end stands at the end of the content
abbrev pub StaysOver : Option Files → WalkView → WalkView → Type 0
StaysOver files old new = ForContent files old.name (λ content. IsWalkOver content old → IsWalkOver content new)

-- what the giving of a document leaves, and the end of a file
pub record LeavesLists (old new : WalkView) : Type 0 where
  pub name : new.name ≡ old.name
  pub header : new.header ≡ old.header
  pub lists : new.lists ≡ old.lists
  pub docs : new.docs ≡ old.docs
  pub kept : new.kept ≡ old.kept
  pub answered : new.answered ≡ old.answered

-- what the end of a file leaves beside that
pub record LeavesPlace (old new : WalkView) : Type 0 where
  pub at : new.at ≡ old.at
  pub marks : new.marks ≡ old.marks
  pub given : new.given ≡ old.given

-- the number of the document that was given is marked, and is new
pub record MarksDoc (old new : WalkView) (x : ℕ × DocRecord) : Type 0 where
  pub given : new.given ≡ old.given + 1
  pub marked : OneMore old.marks new.marks x.0
  pub unseen : is_marked old.marks x.0 ≡ false
  pub below : x.0 < old.docs

-- the document that was given is the one at the walk's place, and the walk stands behind it
abbrev pub DocGiven : Option Files → WalkView → WalkView → Result (ℕ × DocRecord) CiffFault → Type 0
DocGiven files old new result =
    ForContent files old.name (λ content. AreFrom content old.start old.bytes → (numbers : List ℕ) → MarksOf old.marks numbers
    → GivesReading (λ (x : ℕ × DocRecord). record { doc = record { number = x.0; doc = doc_data x.1 }; end = new.at }) result (doc_of_file content old.docs numbers old.at))

-- nothing is left behind the walk's place
abbrev pub EndGiven : Option Files → WalkView → Result Unit CiffFault → Type 0
EndGiven files old result =
    ForContent files old.name (λ content. IsWalkOver content old → GivesReading (λ u. EndPiece) result (at_end old.at (drop old.at content) EndPiece))

-- the end was given before, so that nothing is read
abbrev pub EndsAgain : {F : Type 0} → WalkView → WalkView → F → F → Result Unit CiffFault → Type 0
EndsAgain old now files after result = old.ended ≡ true → (result ≡ Ok tt) × (now ≡ old) × (after ≡ files)
