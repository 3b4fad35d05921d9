-- The Common Index File Format (CIFF; Lin et al., 2020), uncompressed: the collection that a file stands for.
use Rattle.std.specs.Prelude.{ℕ, ◌≡◌, ◌<◌, ◌≤◌, ◌+◌, ◌^◌, List, [], ◌∷◌, ◌++◌, length, map, sum, All, Some, slice_get, nat_eq, ⊤}
use Rattle.std.specs.List.{AllZip, IsDistinct}
use Rattle.std.specs.List.Sorted.{IsStrictlyIncreasing}
use Rattle.std.specs.Str.{IsUtf8, bytes_eq}
use Rattle.jass_base.specs.declared.posting.Posting.{Posting}
use Rattle.jass_base.specs.Limits.{IsName}
use Rattle.jass_base.specs.Postings.{docs_of, HasTfInRange}
use Rattle.jass_base.specs.Wire.{WireField, Spells, IsSized, AreFields, number_field, text_field, eight_field, texts_field}
use Rattle.jass_base.specs.declared.limits.TheConstants.{LONGEST_FILE, LONGEST_TERM, MOST_DOCUMENTS, MOST_POSTINGS, MOST_TERMS}

-- ---- plain data

pub record HeaderData : Type 0 where
  pub version : ℕ
  pub total_lists : ℕ
  pub total_docs : ℕ
  pub total_terms : ℕ
  pub average : List ℕ
  pub description : List ℕ

pub record ListData : Type 0 where
  pub term : List ℕ
  pub df : ℕ
  pub cf : ℕ
  pub postings : List Posting

pub record DocData : Type 0 where
  pub name : List ℕ
  pub length : ℕ

pub record CollectionData : Type 0 where
  pub header : HeaderData
  pub lists : List ListData
  pub docs : List DocData

-- ---- the messages

-- the header that fields stand for
abbrev pub header_of : List WireField → HeaderData
header_of fields = record {
  version = number_field 1 fields;
  total_lists = number_field 4 fields;
  total_docs = number_field 5 fields;
  total_terms = number_field 6 fields;
  average = eight_field 7 fields;
  description = text_field 8 fields;
}

-- the numbers of a header are in their ranges; so many lists and documents follow
pub record FitsHeader (h : HeaderData) (lists docs : ℕ) : Type 0 where
  pub version : h.version < 2 ^ 31
  pub total_lists : h.total_lists < 2 ^ 31
  pub total_docs : h.total_docs < 2 ^ 31
  pub total_terms : h.total_terms < 2 ^ 63
  pub description : IsUtf8 h.description
  pub few_lists : lists ≤ MOST_TERMS
  pub few_docs : docs ≤ MOST_DOCUMENTS

-- the body of a header
pub record IsHeader (body : List ℕ) (h : HeaderData) (lists docs : ℕ) : Type 0 where
  pub fields : List WireField
  pub spelled : AreFields body fields
  pub header : h ≡ header_of fields
  pub list_count : lists ≡ number_field 2 fields
  pub doc_count : docs ≡ number_field 3 fields
  pub fits : FitsHeader h lists docs

-- the body of a posting, whose docid counts from the document of the posting before
pub record IsPosting (last : ℕ) (body : List ℕ) (p : Posting) : Type 0 where
  pub fields : List WireField
  pub spelled : AreFields body fields
  pub doc : p.doc ≡ last + number_field 1 fields
  pub tf : p.tf ≡ number_field 2 fields

-- the bodies of postings one after the other
abbrev pub ArePostings : ℕ → List (List ℕ) → List Posting → Type 0
ArePostings last [] [] = ⊤
ArePostings last [] (p ∷ ps) = ⊥
ArePostings last (body ∷ bodies) [] = ⊥
ArePostings last (body ∷ bodies) (p ∷ ps) = IsPosting last body p × ArePostings p.doc bodies ps

-- what a postings list keeps in a collection of so many documents
pub record FitsList (docs : ℕ) (l : ListData) : Type 0 where
  pub text : IsUtf8 l.term
  pub short : length l.term ≤ LONGEST_TERM
  pub df : l.df < 2 ^ 63
  pub cf : l.cf < 2 ^ 63
  pub rising : IsStrictlyIncreasing (docs_of l.postings)
  pub tf : All HasTfInRange l.postings
  pub below : All (λ doc. doc < docs) (docs_of l.postings)

-- the body of a postings list
pub record IsList (docs : ℕ) (body : List ℕ) (l : ListData) : Type 0 where
  pub fields : List WireField
  pub spelled : AreFields body fields
  pub term : l.term ≡ text_field 1 fields
  pub df : l.df ≡ number_field 2 fields
  pub cf : l.cf ≡ number_field 3 fields
  pub postings : ArePostings 0 (texts_field 4 fields) l.postings
  pub fits : FitsList docs l

-- what a document's record keeps
pub record FitsDoc (d : DocData) : Type 0 where
  pub text : IsUtf8 d.name
  pub name : IsName d.name
  pub length : d.length < 2 ^ 31

-- the body of the record of a document by its number
pub record IsDoc (body : List ℕ) (number : ℕ) (d : DocData) : Type 0 where
  pub fields : List WireField
  pub spelled : AreFields body fields
  pub numbered : number ≡ number_field 1 fields
  pub name : d.name ≡ text_field 2 fields
  pub length : d.length ≡ number_field 3 fields
  pub fits : FitsDoc d

-- the document of a number has this record
pub record IsDocAmong (docs : List DocData) (body : List ℕ) (number : ℕ) : Type 0 where
  pub doc : DocData
  pub there : slice_get docs number ≡ Some doc
  pub spelled : IsDoc body number doc

-- the records of all documents, in whatever order
pub record AreRecords (docs : List DocData) (bodies : List (List ℕ)) : Type 0 where
  pub numbers : List ℕ
  pub each : AllZip (IsDocAmong docs) bodies numbers
  pub differ : IsDistinct nat_eq numbers
  pub all : length bodies ≡ length docs

-- ---- the file

-- how many postings the lists have together
abbrev pub postings_count : List ListData → ℕ
postings_count lists = sum (map (λ (l : ListData). length l.postings) lists)

-- the messages of a header, of the lists and of the documents, and nothing else
pub record IsCiff (bytes : List ℕ) (c : CollectionData) : Type 0 where
  pub header_body : List ℕ
  pub list_bodies : List (List ℕ)
  pub doc_bodies : List (List ℕ)
  pub messages : Spells IsSized bytes (header_body ∷ list_bodies ++ doc_bodies)
  pub header : IsHeader header_body c.header (length c.lists) (length c.docs)
  pub lists : AllZip (IsList (length c.docs)) list_bodies c.lists
  pub docs : AreRecords c.docs doc_bodies
  pub terms_differ : IsDistinct bytes_eq (map (λ (l : ListData). l.term) c.lists)
  pub few_postings : postings_count c.lists ≤ MOST_POSTINGS
  pub short : length bytes ≤ LONGEST_FILE
