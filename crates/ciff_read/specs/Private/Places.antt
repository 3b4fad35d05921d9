-- What the functions of the crate give, at places of the bytes.
use Rattle.std.specs.Prelude.{ℕ, ◌≡◌, ◌<◌, ◌≤◌, suc, List, [], ◌∷◌, length, drop, fold, map, Result, Ok, Err, Option, Some, None, slice_range}
use Rattle.std.specs.Option.{option_map}
use Rattle.jass_base.specs.declared.posting.Posting.{Posting}
use Rattle.jass_base.specs.Ciff.{DocData}
use Rattle.jass_base.specs.CiffViews.{header_data, list_data, doc_data}
use Rattle.jass_base.specs.declared.doc_record.DocRecord.{DocRecord}
use Rattle.jass_base.specs.declared.postings_list.PostingsList.{PostingsList}
use Rattle.ciff_read.specs.declared.doc_fields.DocFields.{DocFields}
use Rattle.ciff_read.specs.declared.documents.Documents.{Documents}
use Rattle.ciff_read.specs.declared.file_head.FileHead.{FileHead}
use Rattle.ciff_read.specs.declared.file_head.HeadFields.{HeadFields}
use Rattle.ciff_read.specs.declared.gathered.Gathered.{Gathered}
use Rattle.ciff_read.specs.declared.list_fields.ListFields.{ListFields}
use Rattle.ciff_read.specs.declared.refusal.CiffRefusal.{CiffRefusal}
use Rattle.ciff_read.specs.Judging.{FileStart, ListStart, NumberedDoc, numbers_of, gather}
use Rattle.ciff_read.specs.Marks.{is_marked}
use Rattle.ciff_read.specs.Private.Table.{has_value, table_with}
use Rattle.ciff_read.specs.Private.Usual.{IsRun}
use Rattle.ciff_read.specs.Walking.{PlacedEntry, entry_inside}
use Rattle.wire_fields.specs.declared.field.Field.{Field}
use Rattle.wire_fields.specs.Places.{field_in}
use Rattle.ciff_read.specs.declared.body.Body.{Body}
use Rattle.ciff_read.specs.declared.refusal.CiffFault.{CiffFault}
use Rattle.ciff_read.specs.Reading.{Message, ListsRead, DocsInOrder, message_at, list_walk_at, doc_at, inserted}
use Rattle.ciff_read.specs.Refusals.{Fails}

-- the message whose body lies between two places
abbrev pub message_in : List ℕ → Body → Message
message_in bytes body = record { from = body.from; body = slice_range bytes body.from body.end; rest = drop body.end bytes }

-- the message at a place is read
abbrev pub ReadsMessage : List ℕ → ℕ → Result Body CiffFault → Type 0
ReadsMessage bytes at (Ok body) = (message_at at (drop at bytes) ≡ Ok (message_in bytes body)) × (at < body.end) × (body.end ≤ length bytes)
ReadsMessage bytes at (Err fault) = Fails fault (message_at at (drop at bytes))

-- the start of a file that these fields hold
abbrev pub start_in : HeadFields → FileStart
start_in h = record {
  header = record {
    version = h.version;
    total_lists = h.total_lists;
    total_docs = h.total_docs;
    total_terms = h.total_terms;
    average = h.average;
    description = h.description.now;
  };
  lists = h.lists;
  docs = h.docs;
}

-- the start of a file without its ranges
abbrev pub start_data : FileHead → FileStart
start_data h = record { header = header_data h.header; lists = h.lists; docs = h.docs }

-- the start of a list that these fields hold
abbrev pub list_start_in : ListFields → ListStart
list_start_in l = record { term = l.term.now; df = l.df; cf = l.cf }

-- the record that these fields hold
abbrev pub numbered_in : DocFields → NumberedDoc
numbered_in d = record { number = d.docid; doc = record { name = d.name.now; length = d.length } }

-- the postings so far, or the first refusal among them
abbrev pub gathered_in : Option CiffRefusal → List Posting → Result (List Posting) CiffRefusal
gathered_in None postings = Ok postings
gathered_in (Some refusal) postings = Err refusal

abbrev pub gathered_of : Gathered → Result (List Posting) CiffRefusal
gathered_of g = gathered_in g.refusal g.postings

-- the start of a list was read, and its postings were gathered
pub record GathersList (bytes : List ℕ) (from : ℕ) (fields : ListFields) (old now : Gathered) : Type 0 where
  pub entries : List PlacedEntry
  pub read : list_walk_at from (drop from bytes) ≡ Ok (record { start = list_start_in fields; entries = entries })
  pub gathered : gathered_of now ≡ fold (gather old.docs old.before) (gathered_of old) entries

abbrev pub ReadsList : List ℕ → ℕ → Result ListFields CiffFault → Gathered → Gathered → Type 0
ReadsList bytes from (Ok fields) old now = GathersList bytes from fields old now
ReadsList bytes from (Err fault) old now = Fails fault (list_walk_at from (drop from bytes))

-- postings that stand from a place to another were gathered one by one
pub record GathersRun (bytes : List ℕ) (at next : ℕ) (old now : Gathered) : Type 0 where
  pub entries : List PlacedEntry
  pub run : IsRun bytes at entries next
  pub forward : at ≤ next
  pub within : next ≤ length bytes
  pub gathered : gathered_of now ≡ fold (gather old.docs old.before) (gathered_of old) entries

-- the posting of a field was read and gathered, where it is one
pub record GathersInside (bytes : List ℕ) (at : ℕ) (field : Field) (old now : Gathered) : Type 0 where
  pub entries : List PlacedEntry
  pub read : entry_inside at field.next (field_in bytes field) ≡ Ok entries
  pub gathered : gathered_of now ≡ fold (gather old.docs old.before) (gathered_of old) entries

abbrev pub GathersField : List ℕ → ℕ → Field → Result Unit CiffFault → Gathered → Gathered → Type 0
GathersField bytes at field (Ok x) old now = GathersInside bytes at field old now
GathersField bytes at field (Err fault) old now = Fails fault (entry_inside at field.next (field_in bytes field))

-- the documents by number, without their ranges
abbrev pub table_of : Documents → List (Option DocData)
table_of documents = map (option_map doc_data) (table_with documents.records.items)

-- the numbers of the records are marked, and no others
abbrev pub AreMarked : Documents → Type 0
AreMarked documents = (n : ℕ) → is_marked documents.numbers.words.items n ≡ has_value (table_with documents.records.items) n

-- the values of a table with their numbers, of which the first is given
abbrev pub numbered_from : ℕ → List (Option DocData) → List NumberedDoc
numbered_from n [] = []
numbered_from n (None ∷ table) = numbered_from (suc n) table
numbered_from n (Some doc ∷ table) = record { number = n; doc = doc } ∷ numbered_from (suc n) table

-- the records so far, by rising numbers
abbrev pub records_of : Documents → List NumberedDoc
records_of documents = numbered_from 0 (table_of documents)

-- the numbers of the records so far
abbrev pub seen_in : Documents → List ℕ
seen_in documents = numbers_of (records_of documents)

-- a document was read and put to its place
abbrev pub PutsDoc : List ℕ → ℕ → Body → ℕ → Result Unit CiffFault → Documents → Documents → Type 0
PutsDoc bytes at body docs (Ok x) old now = (doc : NumberedDoc) × (doc_at docs (seen_in old) at (message_in bytes body) ≡ Ok doc) × (records_of now ≡ inserted doc (records_of old))
PutsDoc bytes at body docs (Err fault) old now = Fails fault (doc_at docs (seen_in old) at (message_in bytes body))

-- lists, and the place behind them
abbrev pub lists_in : List ℕ → List PostingsList × ℕ → ListsRead
lists_in bytes x = record { lists = map list_data x.0; at = x.1; rest = drop x.1 bytes }

-- documents, and the place behind them
abbrev pub docs_in : List ℕ → List DocRecord × ℕ → DocsInOrder
docs_in bytes x = record { docs = map doc_data x.0; at = x.1; rest = drop x.1 bytes }
