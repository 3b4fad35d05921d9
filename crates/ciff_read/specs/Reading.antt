-- Reading a CIFF file from the left, message by message, with the first refusal and its place.
use Rattle.std.specs.Prelude.{ℕ, zero, suc, ◌+◌, ◌-◌, List, [], ◌∷◌, ◌++◌, length, map, take, drop, Result, Ok, Err, nat_lt, if◌then◌else◌}
use Rattle.jass_base.specs.Ciff.{ListData, DocData, CollectionData}
use Rattle.wire_fields.specs.Reading.{varint_at}
use Rattle.ciff_read.specs.declared.refusal.CiffWhy.{CiffWhy}
use Rattle.ciff_read.specs.declared.refusal.CiffWhy.TheVariants.{Cut, Limit, Trailing}
use Rattle.ciff_read.specs.declared.refusal.CiffRefusal.{CiffRefusal}
use Rattle.ciff_read.specs.Judging.{FileStart, ListStart, NumberedDoc, start_of, list_start_of, numbered_of, judge_header, judge_list, judge_doc, numbers_of, postings_of}
use Rattle.ciff_read.specs.Refusals.{◌>>=◌, placed, field_placed}
use Rattle.ciff_read.specs.Walking.{PlacedEntry, walk, nothing_inside, entry_inside}
use Rattle.jass_base.specs.declared.limits.TheConstants.{LONGEST_FILE}

-- a message: the place of its body, the body, and the bytes behind it
pub record Message : Type 0 where
  pub from : ℕ
  pub body : List ℕ
  pub rest : List ℕ

-- the place behind a message
abbrev pub message_end : Message → ℕ
message_end m = m.from + length m.body

-- the body of so many bytes that begins at a place; the message stands at another
abbrev pub body_at : ℕ → ℕ → ℕ → List ℕ → Result Message CiffWhy
body_at at from size s =
    if nat_lt LONGEST_FILE (from + size) then Err Limit
    else (if nat_lt (length s) size then Err Cut
    else Ok (record { from = from; body = take size s; rest = drop size s }))

-- the message at the front of bytes that stand from a place on
unfoldable pub message_at : ℕ → List ℕ → Result Message CiffRefusal
message_at at s = field_placed at (varint_at s) >>= λ x. placed at (body_at at (at + (length s - length x.1)) x.0 x.1)

-- what the bodies of a header, of a list and of a document stand for
abbrev pub start_at : ℕ → List ℕ → Result FileStart CiffRefusal
start_at from body = walk nothing_inside from body >>= λ walked. Ok (start_of walked.fields)

pub record ListWalk : Type 0 where
  pub start : ListStart
  pub entries : List PlacedEntry

abbrev pub list_walk_at : ℕ → List ℕ → Result ListWalk CiffRefusal
list_walk_at from body = walk entry_inside from body >>= λ walked. Ok (record { start = list_start_of walked.fields; entries = walked.entries })

abbrev pub numbered_at : ℕ → List ℕ → Result NumberedDoc CiffRefusal
numbered_at from body = walk nothing_inside from body >>= λ walked. Ok (numbered_of walked.fields)

-- the header in a message that stands at a place
unfoldable pub header_at : ℕ → Message → Result FileStart CiffRefusal
header_at at m = start_at m.from m.body >>= λ start. placed at (judge_header start)

-- a list in a file of so many documents, behind lists of so many postings and of these terms
unfoldable pub list_at : ℕ → ℕ → List (List ℕ) → ℕ → Message → Result ListData CiffRefusal
list_at docs before terms at m =
    list_walk_at m.from m.body >>= λ walked.
    placed at (judge_list terms walked.start) >>= λ start.
    postings_of docs before walked.entries >>= λ postings.
    Ok (record { term = start.term; df = start.df; cf = start.cf; postings = postings })

-- a document in a file of so many, behind records of these numbers
unfoldable pub doc_at : ℕ → List ℕ → ℕ → Message → Result NumberedDoc CiffRefusal
doc_at docs numbers at m = numbered_at m.from m.body >>= λ x. placed at (judge_doc docs numbers x)

-- lists, the place behind them, and the bytes there
pub record ListsRead : Type 0 where
  pub lists : List ListData
  pub at : ℕ
  pub rest : List ℕ

-- so many lists
unfoldable pub lists_at : ℕ → ℕ → ℕ → List (List ℕ) → ℕ → List ℕ → Result ListsRead CiffRefusal
lists_at zero docs before terms at s = Ok (record { lists = []; at = at; rest = s })
lists_at (suc n) docs before terms at s =
    message_at at s >>= λ m.
    list_at docs before terms at m >>= λ list.
    lists_at n docs (before + length list.postings) (terms ++ list.term ∷ []) (message_end m) m.rest >>= λ later.
    Ok (record { lists = list ∷ later.lists; at = later.at; rest = later.rest })

-- a record at its place among others, all by rising numbers
abbrev pub inserted : NumberedDoc → List NumberedDoc → List NumberedDoc
inserted x [] = x ∷ []
inserted x (r ∷ records) = if nat_lt r.number x.number then r ∷ inserted x records else x ∷ r ∷ records

-- records by rising numbers, the place behind them, and the bytes there
pub record DocsRead : Type 0 where
  pub records : List NumberedDoc
  pub at : ℕ
  pub rest : List ℕ

-- so many documents' records, among those that came before
unfoldable pub docs_at : ℕ → ℕ → List NumberedDoc → ℕ → List ℕ → Result DocsRead CiffRefusal
docs_at zero docs records at s = Ok (record { records = records; at = at; rest = s })
docs_at (suc n) docs records at s =
    message_at at s >>= λ m.
    doc_at docs (numbers_of records) at m >>= λ x.
    docs_at n docs (inserted x records) (message_end m) m.rest

-- documents by rising numbers, the place behind them, and the bytes there
pub record DocsInOrder : Type 0 where
  pub docs : List DocData
  pub at : ℕ
  pub rest : List ℕ

abbrev pub docs_in_order : DocsRead → DocsInOrder
docs_in_order x = record { docs = map (λ (r : NumberedDoc). r.doc) x.records; at = x.at; rest = x.rest }

-- so many documents, each of another number
abbrev pub all_docs_at : ℕ → ℕ → List ℕ → Result DocsInOrder CiffRefusal
all_docs_at count at s = docs_at count count [] at s >>= λ x. Ok (docs_in_order x)

-- nothing may follow the last message
abbrev pub at_end : {A : Type 0} → ℕ → List ℕ → A → Result A CiffRefusal
at_end at [] x = Ok x
at_end at (b ∷ s) x = Err (record { at = at; why = Trailing })

-- the collection of a file, or its first refusal
unfoldable pub read_ciff : List ℕ → Result CollectionData CiffRefusal
read_ciff bytes =
    message_at 0 bytes >>= λ m.
    header_at 0 m >>= λ start.
    lists_at start.lists start.docs 0 [] (message_end m) m.rest >>= λ x.
    all_docs_at start.docs x.at x.rest >>= λ y.
    at_end y.at y.rest (record { header = start.header; lists = x.lists; docs = y.docs })
