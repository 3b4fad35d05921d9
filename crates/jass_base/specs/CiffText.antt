-- The one canonical spelling of a collection as a CIFF file: shortest varints, fields by rising number, numbers 0 and empty texts left out, documents by rising number.
use Rattle.std.specs.Prelude.{ℕ, ◌+◌, ◌-◌, ◌*◌, ◌==◌, List, [], ◌∷◌, ◌++◌, length, if◌then◌else◌}
use Rattle.std.specs.List.{flat_map, list_all}
use Rattle.jass_base.specs.declared.posting.Posting.{Posting}
use Rattle.jass_base.specs.Wire.{short_varint}
use Rattle.jass_base.specs.Ciff.{HeaderData, ListData, DocData, CollectionData}

-- a message, or a text: its length, and its bytes
abbrev pub sized : List ℕ → List ℕ
sized bytes = short_varint (length bytes) ++ bytes

-- the fields of a number, of eight bytes and of a text; nothing where the value is that of an absent field
abbrev pub number_spelling : ℕ → ℕ → List ℕ
number_spelling i n = if n == 0 then [] else short_varint (i * 8) ++ short_varint n

abbrev pub eight_spelling : ℕ → List ℕ → List ℕ
eight_spelling i bytes = if list_all (λ b. b == 0) bytes then [] else short_varint (i * 8 + 1) ++ bytes

abbrev pub text_spelling : ℕ → List ℕ → List ℕ
text_spelling i bytes = if length bytes == 0 then [] else short_varint (i * 8 + 2) ++ sized bytes

-- the body of the header, before so many lists and documents
abbrev pub header_body : HeaderData → ℕ → ℕ → List ℕ
header_body h lists docs = number_spelling 1 h.version ++ number_spelling 2 lists ++ number_spelling 3 docs ++ number_spelling 4 h.total_lists ++ number_spelling 5 h.total_docs ++ number_spelling 6 h.total_terms ++ eight_spelling 7 h.average ++ text_spelling 8 h.description

-- the body of a posting behind the document of the one before
abbrev pub posting_body : ℕ → Posting → List ℕ
posting_body last p = number_spelling 1 (p.doc - last) ++ number_spelling 2 p.tf

-- the postings of a list, each one present
abbrev pub postings_spelling : ℕ → List Posting → List ℕ
postings_spelling last [] = []
postings_spelling last (p ∷ ps) = (short_varint (4 * 8 + 2) ++ sized (posting_body last p)) ++ postings_spelling p.doc ps

abbrev pub list_body : ListData → List ℕ
list_body l = text_spelling 1 l.term ++ number_spelling 2 l.df ++ number_spelling 3 l.cf ++ postings_spelling 0 l.postings

abbrev pub doc_body : ℕ → DocData → List ℕ
doc_body number d = number_spelling 1 number ++ text_spelling 2 d.name ++ number_spelling 3 d.length

-- the documents from a number on
abbrev pub docs_spelling : ℕ → List DocData → List ℕ
docs_spelling number [] = []
docs_spelling number (d ∷ ds) = sized (doc_body number d) ++ docs_spelling (number + 1) ds

unfoldable pub canonical_ciff : CollectionData → List ℕ
canonical_ciff c = sized (header_body c.header (length c.lists) (length c.docs)) ++ flat_map (λ (l : ListData). sized (list_body l)) c.lists ++ docs_spelling 0 c.docs
