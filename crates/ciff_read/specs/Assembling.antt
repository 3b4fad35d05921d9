-- What the pieces that were given of a file are parts of.
use Rattle.std.specs.Prelude.{ℕ, ◌≡◌, ◌-◌, List, [], ◌∷◌, ◌++◌, length, map, fold, drop, Result}
use Rattle.std.specs.List.{AllZip}
use Rattle.jass_base.specs.Ciff.{HeaderData, ListData, CollectionData}
use Rattle.ciff_read.specs.declared.refusal.CiffRefusal.{CiffRefusal}
use Rattle.ciff_read.specs.Judging.{NumberedDoc, numbers_of}
use Rattle.ciff_read.specs.Pieces.{KeptList, Progress, PieceData, StartPiece, ListPiece, DocPiece, EndPiece, postings_kept, terms_kept}
use Rattle.ciff_read.specs.Reading.{read_ciff, inserted, lists_at, docs_at, at_end}
use Rattle.ciff_read.specs.Refusals.{◌>>=◌}
use Rattle.ciff_read.specs.Walk.{IsListAt}

-- the header, and the lists and the documents' records that were given, in the order of the file
pub record Parts : Type 0 where
  pub header : HeaderData
  pub lists : List ListData
  pub records : List NumberedDoc

-- nothing but the header
abbrev pub only_header : HeaderData → Parts
only_header header = record { header = header; lists = []; records = [] }

-- one piece more
abbrev pub with_piece : Parts → PieceData → Parts
with_piece parts (StartPiece header lists docs) = parts
with_piece parts (ListPiece at list) = record parts { lists = parts.lists ++ list ∷ [] }
with_piece parts (DocPiece doc) = record parts { records = parts.records ++ doc ∷ [] }
with_piece parts EndPiece = parts

-- records by rising numbers
abbrev pub by_number : List NumberedDoc → List NumberedDoc
by_number records = fold (λ (placed : List NumberedDoc) (x : NumberedDoc). inserted x placed) [] records

-- the collection of all parts
abbrev pub collection_of : Parts → CollectionData
collection_of parts = record { header = parts.header; lists = parts.lists; docs = map (λ (r : NumberedDoc). r.doc) (by_number parts.records) }

-- what is read of the rest of a content, behind these parts
unfoldable pub rest_of : List ℕ → Progress → Parts → Result CollectionData CiffRefusal
rest_of content p parts =
    lists_at (p.lists - length parts.lists) p.docs (postings_kept p.kept) (terms_kept p.kept) p.at (drop p.at content) >>= λ x.
    docs_at (p.docs - length parts.records) p.docs (by_number parts.records) x.at x.rest >>= λ y.
    at_end y.at y.rest (record { header = parts.header; lists = parts.lists ++ x.lists; docs = map (λ (r : NumberedDoc). r.doc) y.records })

-- a list is kept, and stands at its place in the content
pub record IsKeptList (content : List ℕ) (docs : ℕ) (kept : KeptList) (list : ListData) : Type 0 where
  pub term : kept.term ≡ list.term
  pub count : kept.count ≡ length list.postings
  pub there : IsListAt content docs kept.at list

-- what was given so far are these parts, and the rest is still to be read
pub record Assembles (content : List ℕ) (p : Progress) (parts : Parts) : Type 0 where
  pub rest : read_ciff content ≡ rest_of content p parts
  pub lists : AllZip (IsKeptList content p.docs) p.kept parts.lists
  pub numbers : p.numbers ≡ numbers_of parts.records
