-- The first refusal of the values of a message, in the order of the format.
use Rattle.std.specs.Prelude.{ℕ, ◌+◌, ◌^◌, ◌==◌, Bool, ◌&&◌, ◌||◌, not, List, [], ◌∷◌, ◌++◌, length, fold, map, Result, Ok, Err, nat_lt, nat_le, if◌then◌else◌}
use Rattle.std.specs.List.{list_all, list_any}
use Rattle.std.specs.Str.{is_utf8}
use Rattle.jass_base.specs.declared.posting.Posting.{Posting}
use Rattle.jass_base.specs.Wire.{WireField, number_field, text_field}
use Rattle.jass_base.specs.Ciff.{HeaderData, DocData, header_of}
use Rattle.ciff_read.specs.declared.posting_fields.PostingFields.{PostingFields}
use Rattle.ciff_read.specs.declared.refusal.CiffWhy.{CiffWhy}
use Rattle.ciff_read.specs.declared.refusal.CiffWhy.TheVariants.{Range, Text, Tf, Gap, DocRange, TermTwice, DocTwice, NameText, Limit}
use Rattle.ciff_read.specs.declared.refusal.CiffRefusal.{CiffRefusal}
use Rattle.ciff_read.specs.Refusals.{◌>>=◌, placed}
use Rattle.ciff_read.specs.Seen.{is_seen}
use Rattle.ciff_read.specs.Walking.{PlacedEntry}
use Rattle.jass_base.specs.declared.limits.TheConstants.{LONGEST_NAME, LONGEST_TERM, MOST_DOCUMENTS, MOST_POSTINGS, MOST_TERMS}

-- a header, and the numbers of lists and documents that follow
pub record FileStart : Type 0 where
  pub header : HeaderData
  pub lists : ℕ
  pub docs : ℕ

-- a postings list without its postings
pub record ListStart : Type 0 where
  pub term : List ℕ
  pub df : ℕ
  pub cf : ℕ

-- a document's record with its number
pub record NumberedDoc : Type 0 where
  pub number : ℕ
  pub doc : DocData

-- what the fields of each message stand for
abbrev pub start_of : List WireField → FileStart
start_of fields = record { header = header_of fields; lists = number_field 2 fields; docs = number_field 3 fields }

abbrev pub list_start_of : List WireField → ListStart
list_start_of fields = record { term = text_field 1 fields; df = number_field 2 fields; cf = number_field 3 fields }

abbrev pub numbered_of : List WireField → NumberedDoc
numbered_of fields = record { number = number_field 1 fields; doc = record { name = text_field 2 fields; length = number_field 3 fields } }

-- whether a number is outside the 31 or 63 bits that a signed one has
abbrev pub over31 : ℕ → Bool
over31 n = nat_le (2 ^ 31) n

abbrev pub over63 : ℕ → Bool
over63 n = nat_le (2 ^ 63) n

-- the start of a file, where no check of its numbers fails
abbrev pub judge_header : FileStart → Result FileStart CiffWhy
judge_header x =
    if over31 x.header.version || over31 x.lists || over31 x.docs || over31 x.header.total_lists || over31 x.header.total_docs || over63 x.header.total_terms then Err Range
    else (if not (is_utf8 x.header.description) then Err Text
    else (if nat_lt MOST_TERMS x.lists || nat_lt MOST_DOCUMENTS x.docs then Err Limit
    else Ok x))

-- the start of a list behind lists of these terms
abbrev pub judge_list : List (List ℕ) → ListStart → Result ListStart CiffWhy
judge_list terms x =
    if not (is_utf8 x.term) then Err Text
    else (if nat_lt LONGEST_TERM (length x.term) then Err Limit
    else (if is_seen x.term terms then Err TermTwice
    else (if over63 x.df || over63 x.cf then Err Range
    else Ok x)))

-- the last document behind one that came before
abbrev pub last_from : ℕ → List Posting → ℕ
last_from last [] = last
last_from last (p ∷ ps) = last_from p.doc ps

-- the next posting of a list in a file of so many documents, with so many postings in the lists before
abbrev pub judge : ℕ → ℕ → List Posting → PostingFields → Result Posting CiffWhy
judge docs before postings entry =
    if over31 entry.docid || over31 entry.tf then Err Range
    else (if entry.tf == 0 then Err Tf
    else (if entry.docid == 0 && nat_lt 0 (length postings) then Err Gap
    else (if nat_le docs (last_from 0 postings + entry.docid) then Err DocRange
    else (if nat_le MOST_POSTINGS (before + length postings) then Err Limit
    else Ok (record { doc = last_from 0 postings + entry.docid; tf = entry.tf })))))

-- one posting more, unless an earlier one was refused
abbrev pub gather : ℕ → ℕ → Result (List Posting) CiffRefusal → PlacedEntry → Result (List Posting) CiffRefusal
gather docs before so_far x = so_far >>= λ postings. placed x.at (judge docs before postings x.entry) >>= λ p. Ok (postings ++ p ∷ [])

-- the postings of a list
abbrev pub postings_of : ℕ → ℕ → List PlacedEntry → Result (List Posting) CiffRefusal
postings_of docs before entries = fold (gather docs before) (Ok []) entries

-- whether a text may be a name: it has some bytes and not too many, and none is a blank or a control character
abbrev pub is_name : List ℕ → Bool
is_name name = not (length name == 0) && nat_le (length name) LONGEST_NAME && list_all (λ b. nat_lt 32 b && not (b == 127)) name

-- the numbers of records
abbrev pub numbers_of : List NumberedDoc → List ℕ
numbers_of records = map (λ (r : NumberedDoc). r.number) records

-- whether a number is one of these
abbrev pub is_among : ℕ → List ℕ → Bool
is_among number numbers = list_any (λ n. n == number) numbers

-- the record of a document in a file of so many, behind records of these numbers
abbrev pub judge_doc : ℕ → List ℕ → NumberedDoc → Result NumberedDoc CiffWhy
judge_doc docs numbers x =
    if over31 x.number then Err Range
    else (if nat_le docs x.number then Err DocRange
    else (if is_among x.number numbers then Err DocTwice
    else (if not (is_utf8 x.doc.name) then Err Text
    else (if not (is_name x.doc.name) then Err NameText
    else (if over31 x.doc.length then Err Range
    else Ok x)))))
