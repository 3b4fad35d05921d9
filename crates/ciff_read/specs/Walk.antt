-- A walk over a file as plain data, and the content that it stands for.
use Rattle.std.specs.Prelude.{ℕ, ◌-◌, ◌==◌, ◌||◌, ◌≡◌, ◌≢◌, ◌<◌, ◌≤◌, ⊤, Bool, true, false, List, [], length, drop, All, Contains, MatchResult, Option, Some, None, Result, Ok, Err, IsSome}
use Rattle.std.specs.List.Sorted.{IsStrictlyIncreasing}
use Rattle.jass_base.specs.Ciff.{HeaderData, ListData}
use Rattle.jass_base.specs.CiffViews.{list_data}
use Rattle.jass_base.specs.Outside.{Files, ForContent}
use Rattle.ciff_read.specs.declared.refusal.CiffFault.{CiffFault}
use Rattle.ciff_read.specs.declared.refusal.CiffFault.TheVariants as faults
use Rattle.ciff_read.specs.declared.refusal.CiffRefusal.{CiffRefusal}
use Rattle.ciff_read.specs.declared.refusal.CiffWhy.{CiffWhy}
use Rattle.ciff_read.specs.declared.refusal.CiffWhy.TheVariants as whys
use Rattle.ciff_read.specs.Judging.{is_among}
use Rattle.ciff_read.specs.Marks.{is_marked}
use Rattle.ciff_read.specs.Pieces.{KeptList, Progress, header_of_file, IsReached, postings_kept, places_kept}
use Rattle.jass_base.specs.declared.postings_list.PostingsList.{PostingsList}
use Rattle.ciff_read.specs.Reaching.{FailsReading}
use Rattle.ciff_read.specs.Reading.{Message, message_at, list_at}
use Rattle.whole_files.specs.Windows.{AreFrom}
use Rattle.jass_base.specs.declared.limits.TheConstants.{LONGEST_FILE, MOST_DOCUMENTS, MOST_POSTINGS, MOST_TERMS}

-- what a walk is: the file's name; what it keeps of the file up to a place; the numbers of the documents that it has given, as marked
-- bits, and how many these are; whether it has given the end; the error that it has answered; and the bytes of the file that it holds,
-- from a place on
pub record WalkView : Type 0 where
  pub name : List ℕ
  pub header : Option HeaderData
  pub lists : ℕ
  pub docs : ℕ
  pub at : ℕ
  pub kept : List KeptList
  pub marks : List ℕ
  pub given : ℕ
  pub ended : Bool
  pub answered : Option CiffFault
  pub start : ℕ
  pub bytes : List ℕ

-- the ranges that hold whether or not the content is told
pub record KeepsRanges (w : WalkView) : Type 0 where
  pub few_lists : w.lists ≤ MOST_TERMS
  pub few_docs : w.docs ≤ MOST_DOCUMENTS
  pub few_postings : postings_kept w.kept ≤ MOST_POSTINGS
  pub lists_given : length w.kept ≤ w.lists
  pub docs_given : w.given ≤ w.docs
  pub near : w.at ≤ LONGEST_FILE
  pub rising : IsStrictlyIncreasing (places_kept w.kept)
  pub before : All (λ (k : KeptList). k.at < w.at) w.kept

-- a walk over the file of a name that has given nothing yet
pub record Begins (name : List ℕ) (w : WalkView) : Type 0 where
  pub name_is : w.name ≡ name
  pub header : IsSome w.header
  pub kept : w.kept ≡ []
  pub given : w.given ≡ 0
  pub ended : w.ended ≡ false
  pub answered : w.answered ≡ None

-- a walk that has given the header, all lists, all documents and the end
pub record IsAtEnd (w : WalkView) : Type 0 where
  pub header : w.header ≡ None
  pub lists : length w.kept ≡ w.lists
  pub docs : w.given ≡ w.docs
  pub ended : w.ended ≡ true

-- the walk keeps what was given
pub record Keeps (w : WalkView) (p : Progress) : Type 0 where
  pub header : w.header ≡ p.header
  pub lists : w.lists ≡ p.lists
  pub docs : w.docs ≡ p.docs
  pub at : w.at ≡ p.at
  pub kept : w.kept ≡ p.kept
  pub given : w.given ≡ length p.numbers
  pub marks : (n : ℕ) → is_marked w.marks n ≡ is_among n p.numbers

-- the bytes that the walk holds are of the content, which ends at the walk's place where the walk has given the end
pub record IsWalkOver (content : List ℕ) (w : WalkView) : Type 0 where
  pub shows : AreFrom content w.start w.bytes
  pub ends : w.ended ≡ true → length content ≤ w.at

-- no check fails before the walk's place, what it keeps is what the messages there hold, and what it holds is of the content
pub record Stands (content : List ℕ) (w : WalkView) : Type 0 where
  pub progress : Progress
  pub reached : IsReached content progress
  pub keeps : Keeps w progress
  pub over : IsWalkOver content w

-- the same of a walk that has answered no error
abbrev pub StandsFor : List ℕ → WalkView → Type 0
StandsFor content w = w.answered ≡ None → Stands content w

-- the condition of a call: the walk stands for the content under its name, where it is told
abbrev pub StandsTold : Option Files → WalkView → Type 0
StandsTold files w = ForContent files w.name (λ content. StandsFor content w)

-- a walk that was opened has given nothing, and stands for the content that was read; a refusal is that of the header
abbrev pub Opens : List ℕ → Result WalkView CiffFault → Type 0
Opens content (Ok w) = StandsFor content w
Opens content (Err fault) = FailsReading fault (header_of_file content)

-- the list that stands at a place of the content
pub record IsListAt (content : List ℕ) (docs at : ℕ) (list : ListData) : Type 0 where
  pub message : Message
  pub there : message_at at (drop at content) ≡ Ok message
  pub judged : list_at docs 0 [] at message ≡ Ok list

-- a list that was given stands at the place, and has so many postings
abbrev pub HasKept : List KeptList → ℕ → ℕ → Type 0
HasKept kept at count = (k : KeptList) × Contains kept k × (k.at ≡ at) × (k.count ≡ count)

abbrev pub IsGiven : List KeptList → ℕ → Type 0
IsGiven kept at = (k : KeptList) × Contains kept k × (k.at ≡ at)

-- a fault of the world, and no refusal
abbrev pub IsOutside : CiffFault → Type 0
IsOutside (faults.Refused refusal) = ⊥
IsOutside faults.ReadFault = ⊤
IsOutside faults.NoMemory = ⊤

-- of a content that is told a list that was given is found again, where the walk has answered no error
abbrev pub FindsAgain : Option Files → WalkView → ℕ → Result PostingsList CiffFault → Type 0
FindsAgain files old at result =
    ForContent files old.name (λ content. old.answered ≡ None → MatchResult result (λ list. IsListAt content old.docs at (list_data list)) IsOutside)

-- the list that the bytes stand for which the walk holds at a place of the file
pub record HoldsList (w : WalkView) (at : ℕ) (list : ListData) : Type 0 where
  pub front : w.start ≤ at
  pub there : IsListAt w.bytes w.docs (at - w.start) list

-- the walk holds a list at a place that has so many postings, which isn't the number that was kept of it
pub record HoldsOther (w : WalkView) (at kept found : ℕ) : Type 0 where
  pub list : ListData
  pub holds : HoldsList w at list
  pub found_is : found ≡ length list.postings
  pub kept_is : HasKept w.kept at kept
  pub other : kept ≢ found

-- a refusal for another number of postings than the kept one says both numbers, and stands at the list's place
abbrev pub SaysChange : WalkView → ℕ → CiffRefusal → CiffWhy → Type 0
SaysChange now at refusal (whys.Changed kept found) = (refusal.at ≡ at) × HoldsOther now at kept found
SaysChange now at refusal why = ⊤

abbrev pub ChangesOnly : WalkView → ℕ → CiffFault → Type 0
ChangesOnly now at (faults.Refused refusal) = SaysChange now at refusal refusal.why
ChangesOnly now at fault = ⊤

-- what reading a list again leaves: all but what is held of the file, and the error that is answered
pub record LeavesWalk (old new : WalkView) : Type 0 where
  pub name : new.name ≡ old.name
  pub header : new.header ≡ old.header
  pub lists : new.lists ≡ old.lists
  pub docs : new.docs ≡ old.docs
  pub at : new.at ≡ old.at
  pub kept : new.kept ≡ old.kept
  pub marks : new.marks ≡ old.marks
  pub given : new.given ≡ old.given
  pub ended : new.ended ≡ old.ended

-- an error, once it is answered, is answered at each later call, and the walk and the files stay
abbrev pub SameError : {T F : Type 0} → WalkView → WalkView → F → F → Result T CiffFault → Type 0
SameError old now files after result =
    (fault : CiffFault) → old.answered ≡ Some fault → (result ≡ Err fault) × (now ≡ old) × (after ≡ files)

-- an error that is answered is kept
abbrev pub KeepsError : {T : Type 0} → WalkView → Result T CiffFault → Type 0
KeepsError now (Ok x) = ⊤
KeepsError now (Err fault) = now.answered ≡ Some fault

-- a list as it is kept
abbrev pub kept_of : ℕ → PostingsList → KeptList
kept_of at list = record { term = list.term; at = at; count = length list.postings }

-- one number more is marked
abbrev pub OneMore : List ℕ → List ℕ → ℕ → Type 0
OneMore old new number = (n : ℕ) → is_marked new n ≡ (n == number || is_marked old n)
