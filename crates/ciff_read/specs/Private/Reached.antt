-- What is read of a file by a window, part by part.
use Rattle.std.specs.Prelude.{ℕ, ◌≡◌, ◌<◌, ◌≤◌, ◌+◌, ◌-◌, List, [], drop, length, All, Bool, false, IsTrue, Result, Ok, Err, Option, Some, None}
use Rattle.jass_base.specs.CiffViews.{list_data, doc_data}
use Rattle.jass_base.specs.Lists.{HasDocsBelow}
use Rattle.jass_base.specs.Outside.{Files, ForContent}
use Rattle.jass_base.specs.Terms.{BytesRise}
use Rattle.jass_base.specs.declared.postings_list.PostingsList.{PostingsList}
use Rattle.jass_base.specs.declared.limits.TheConstants.{LONGEST_FILE, MOST_POSTINGS}
use Rattle.jass_base.specs.declared.doc_record.DocRecord.{DocRecord}
use Rattle.ciff_read.specs.declared.file_head.FileHead.{FileHead}
use Rattle.ciff_read.specs.declared.refusal.CiffRefusal.{CiffRefusal}
use Rattle.ciff_read.specs.declared.refusal.CiffFault.{CiffFault}
use Rattle.whole_files.specs.declared.window.Window.{Window}
use Rattle.ciff_read.specs.declared.kept_lists.KeptLists.{KeptLists}
use Rattle.ciff_read.specs.declared.doc_set.DocSet.{DocSet}
use Rattle.ciff_read.specs.Judging.{NumberedDoc, is_among}
use Rattle.ciff_read.specs.KeptLists.{kept_in}
use Rattle.ciff_read.specs.Marks.{is_marked}
use Rattle.ciff_read.specs.Pieces.{FileHeader, ListInFile, DocInFile, header_of_file, list_of_file, doc_of_file, terms_kept}
use Rattle.ciff_read.specs.Private.KeptEntries.{terms_in}
use Rattle.ciff_read.specs.Private.Places.{start_data}
use Rattle.ciff_read.specs.Reaching.{FailsReading}
use Rattle.ciff_read.specs.Reading.{Message, doc_at, list_at, message_at}
use Rattle.ciff_read.specs.Refusals.{Answers}
use Rattle.ciff_read.specs.Seen.{is_seen}
use Rattle.whole_files.specs.Windows.{Shows}

-- what a function answers, seen by view, is what reading gives; a read fault or want of memory may come instead
abbrev pub GivesReading : {X Y : Type 0} → (X → Y) → Result X CiffFault → Result Y CiffRefusal → Type 0
GivesReading view (Ok x) read = read ≡ Ok (view x)
GivesReading view (Err fault) read = FailsReading fault read

-- the header that was read, and the place behind it
abbrev pub file_header : FileHead × ℕ → FileHeader
file_header x = record { start = start_data x.0; end = x.1 }

abbrev pub HeaderTold : Option Files → List ℕ → Window → Result (FileHead × ℕ) CiffFault → Type 0
HeaderTold files name old result = ForContent files name (λ content. Shows content old → GivesReading file_header result (header_of_file content))

-- the list that was read, and the place behind it
abbrev pub list_in_file : PostingsList × ℕ × Bool → ListInFile
list_in_file x = record { list = list_data x.0; end = x.1 }

-- the terms of the lists that a list is read behind, where it isn't read by itself
abbrev pub terms_behind : Option KeptLists → List (List ℕ)
terms_behind None = []
terms_behind (Some kept) = terms_kept (kept_in kept)

abbrev pub ListTold : Option Files → List ℕ → Window → ℕ → ℕ → Option KeptLists → ℕ → Result (PostingsList × ℕ × Bool) CiffFault → Type 0
ListTold files name old docs before kept at result =
    ForContent files name (λ content. Shows content old → GivesReading list_in_file result (list_of_file content docs before (terms_behind kept) at))

-- the lists that were given rise by their terms, all of them, and the term is greater than theirs
pub record RisesBehind (lists : KeptLists) (term : List ℕ) : Type 0 where
  pub none_hashed : lists.hashed.entries ≡ []
  pub greatest : All (λ t. BytesRise t term) (terms_in lists.rising)

-- a list is read behind others, which rise up to its term
abbrev pub IsToldToRise : Option KeptLists → List ℕ → Type 0
IsToldToRise None term = ⊥
IsToldToRise (Some kept) term = RisesBehind kept term

-- a list of a new term, in documents of the file and with no more postings than a file has, and whether its term is
-- told to rise
pub record IsNewList (docs before : ℕ) (kept : Option KeptLists) (x : PostingsList × Bool) : Type 0 where
  pub new : is_seen x.0.term (terms_behind kept) ≡ false
  pub rises : IsTrue x.1 → IsToldToRise kept x.0.term
  pub few : before + length x.0.postings ≤ MOST_POSTINGS
  pub below : HasDocsBelow docs x.0

-- such a list that stands at a place, and the place behind it
pub record IsNextList (docs before : ℕ) (kept : Option KeptLists) (at : ℕ) (x : PostingsList × ℕ × Bool) : Type 0 where
  pub list : IsNewList docs before kept (x.0, x.2)
  pub near : x.1 ≤ LONGEST_FILE
  pub behind : at < x.1

-- the list at a place, as the bytes that are held have it
pub record HoldsRead (docs before : ℕ) (kept : Option KeptLists) (at : ℕ) (w : Window) (x : PostingsList × ℕ × Bool) : Type 0 where
  pub front : w.start ≤ at
  pub message : Message
  pub there : message_at (at - w.start) (drop (at - w.start) w.bytes.items) ≡ Ok message
  pub judged : list_at docs before (terms_behind kept) (at - w.start) message ≡ Ok (list_data x.0)

-- a document's number and record, and the place behind it
abbrev pub doc_in_file : ℕ × DocRecord × ℕ → DocInFile
doc_in_file x = record { doc = record { number = x.0; doc = doc_data x.1 }; end = x.2 }

-- the numbers that are marked are these
abbrev pub MarksOf : List ℕ → List ℕ → Type 0
MarksOf words numbers = (n : ℕ) → is_marked words n ≡ is_among n numbers

-- the number of a document of the file that none of the marked ones is
pub record IsNewDoc (docs : ℕ) (set : DocSet) (number : ℕ) : Type 0 where
  pub unseen : is_marked set.words.items number ≡ false
  pub below : number < docs

-- the record of a document with its number
abbrev pub doc_numbered : ℕ × DocRecord → NumberedDoc
doc_numbered x = record { number = x.0; doc = doc_data x.1 }

-- the record of a message, where these numbers are marked
abbrev pub DocHeld : ℕ → DocSet → ℕ → Message → Result (ℕ × DocRecord) CiffFault → Type 0
DocHeld docs set at m result = (numbers : List ℕ) → MarksOf set.words.items numbers → Answers doc_numbered result (doc_at docs numbers at m)

-- a record that stands at a place, whose number is none of the marked ones, and the place behind it
pub record IsNextDoc (docs : ℕ) (set : DocSet) (at : ℕ) (x : ℕ × DocRecord × ℕ) : Type 0 where
  pub near : x.2 ≤ LONGEST_FILE
  pub behind : at < x.2
  pub new : IsNewDoc docs set x.0

abbrev pub DocTold : Option Files → List ℕ → Window → ℕ → DocSet → ℕ → Result (ℕ × DocRecord × ℕ) CiffFault → Type 0
DocTold files name old docs set at result =
    ForContent files name (λ content. Shows content old → (numbers : List ℕ) → MarksOf set.words.items numbers → GivesReading doc_in_file result (doc_of_file content docs numbers at))
