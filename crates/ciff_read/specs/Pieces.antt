-- A file that is given piece by piece: what comes next, and what is kept of what came before.
use Rattle.std.specs.Prelude.{ℕ, zero, suc, ◌≡◌, List, [], ◌∷◌, ◌++◌, length, map, drop, sum_by, Option, Some, None, Result, Ok, nat_lt, if◌then◌else◌}
use Rattle.jass_base.specs.Ciff.{HeaderData, ListData}
use Rattle.ciff_read.specs.declared.refusal.CiffRefusal.{CiffRefusal}
use Rattle.ciff_read.specs.Judging.{FileStart, NumberedDoc}
use Rattle.ciff_read.specs.Reading.{message_end, message_at, header_at, list_at, doc_at, at_end}
use Rattle.ciff_read.specs.Refusals.{◌>>=◌}

-- a list that was given: its term, its place, and the number of its postings
pub record KeptList : Type 0 where
  pub term : List ℕ
  pub at : ℕ
  pub count : ℕ

-- how far a file was given: its header until it is given, the numbers of lists and documents, the place of the next message, and
-- the lists and the numbers of the documents that were given, in the order of the file
pub record Progress : Type 0 where
  pub header : Option HeaderData
  pub lists : ℕ
  pub docs : ℕ
  pub at : ℕ
  pub kept : List KeptList
  pub numbers : List ℕ

-- a piece of a file
pub data PieceData : Type 0 where
  StartPiece : HeaderData → ℕ → ℕ → PieceData
  ListPiece : ℕ → ListData → PieceData
  DocPiece : NumberedDoc → PieceData
  EndPiece : PieceData

-- a piece, and how far the file was given with it
pub record Step : Type 0 where
  pub piece : PieceData
  pub later : Progress

-- the terms and the places of the lists that were given, and how many postings these have
abbrev pub terms_kept : List KeptList → List (List ℕ)
terms_kept kept = map (λ (k : KeptList). k.term) kept

abbrev pub places_kept : List KeptList → List ℕ
places_kept kept = map (λ (k : KeptList). k.at) kept

abbrev pub postings_kept : List KeptList → ℕ
postings_kept kept = sum_by (λ (k : KeptList). k.count) kept

-- the header, and the place behind it
pub record FileHeader : Type 0 where
  pub start : FileStart
  pub end : ℕ

abbrev pub header_of_file : List ℕ → Result FileHeader CiffRefusal
header_of_file content = message_at 0 content >>= λ m. header_at 0 m >>= λ start. Ok (record { start = start; end = message_end m })

-- nothing was given yet
abbrev pub begun : FileHeader → Progress
begun h = record { header = Some h.start.header; lists = h.start.lists; docs = h.start.docs; at = h.end; kept = []; numbers = [] }

-- one list more, and one document more
abbrev pub with_list : Progress → ListData → ℕ → Progress
with_list p list end = record { header = None; lists = p.lists; docs = p.docs; at = end; kept = p.kept ++ record { term = list.term; at = p.at; count = length list.postings } ∷ []; numbers = p.numbers }

abbrev pub with_doc : Progress → ℕ → ℕ → Progress
with_doc p number end = record { header = None; lists = p.lists; docs = p.docs; at = end; kept = p.kept; numbers = p.numbers ++ number ∷ [] }

-- the list at a place, behind lists of so many postings and of these terms, and the place behind it
pub record ListInFile : Type 0 where
  pub list : ListData
  pub end : ℕ

abbrev pub list_of_file : List ℕ → ℕ → ℕ → List (List ℕ) → ℕ → Result ListInFile CiffRefusal
list_of_file content docs before terms at =
    message_at at (drop at content) >>= λ m. list_at docs before terms at m >>= λ list. Ok (record { list = list; end = message_end m })

-- the document's record at a place, behind records of these numbers, and the place behind it
pub record DocInFile : Type 0 where
  pub doc : NumberedDoc
  pub end : ℕ

abbrev pub doc_of_file : List ℕ → ℕ → List ℕ → ℕ → Result DocInFile CiffRefusal
doc_of_file content docs numbers at =
    message_at at (drop at content) >>= λ m. doc_at docs numbers at m >>= λ doc. Ok (record { doc = doc; end = message_end m })

abbrev pub list_next : List ℕ → Progress → Result Step CiffRefusal
list_next content p =
    list_of_file content p.docs (postings_kept p.kept) (terms_kept p.kept) p.at >>= λ x. Ok (record { piece = ListPiece p.at x.list; later = with_list p x.list x.end })

abbrev pub doc_next : List ℕ → Progress → Result Step CiffRefusal
doc_next content p =
    doc_of_file content p.docs p.numbers p.at >>= λ x. Ok (record { piece = DocPiece x.doc; later = with_doc p x.doc.number x.end })

abbrev pub end_next : List ℕ → Progress → Result Step CiffRefusal
end_next content p = at_end p.at (drop p.at content) (record { piece = EndPiece; later = p })

-- the piece behind the header
abbrev pub message_next : List ℕ → Progress → Result Step CiffRefusal
message_next content p =
    if nat_lt (length p.kept) p.lists then list_next content p
    else (if nat_lt (length p.numbers) p.docs then doc_next content p
    else end_next content p)

-- the header is given first
abbrev pub without_header : Progress → Progress
without_header p = record { header = None; lists = p.lists; docs = p.docs; at = p.at; kept = p.kept; numbers = p.numbers }

abbrev pub next_behind : Option HeaderData → List ℕ → Progress → Result Step CiffRefusal
next_behind (Some h) content p = Ok (record { piece = StartPiece h p.lists p.docs; later = without_header p })
next_behind None content p = message_next content p

-- the next piece of a content, or the first refusal
unfoldable pub next_of : List ℕ → Progress → Result Step CiffRefusal
next_of content p = next_behind p.header content p

-- so many pieces further on
abbrev pub after : ℕ → List ℕ → Progress → Result Progress CiffRefusal
after zero content p = Ok p
after (suc n) content p = after n content p >>= λ q. next_of content q >>= λ s. Ok s.later

-- some number of pieces of the content lead there, so no check of these messages fails
pub record IsReached (content : List ℕ) (p : Progress) : Type 0 where
  pub count : ℕ
  pub reached : (header_of_file content >>= λ h. after count content (begun h)) ≡ Ok p
