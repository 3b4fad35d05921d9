-- Documents whose names stand one behind the other in one sequence of bytes.
use Rattle.std.specs.Prelude.{ℕ, ◌≤◌, List, length, map, slice_range, All, AllPairs}
use Rattle.std.specs.List.Sorted.{IsPermutation}
use Rattle.jass_base.specs.Ciff.{FitsDoc}
use Rattle.jass_base.specs.CiffViews.{doc_data}
use Rattle.jass_base.specs.declared.doc_record.DocRecord.{DocRecord}
use Rattle.ciff_read.specs.Judging.{NumberedDoc}
use Rattle.index_import.specs.declared.kept_docs.KeptDoc.{KeptDoc}

-- a document's record with its number
abbrev pub numbered : ℕ × DocRecord → NumberedDoc
numbered x = record { number = x.0; doc = doc_data x.1 }

-- the record of a document whose name stands among the bytes
abbrev pub record_at : List ℕ → KeptDoc → NumberedDoc
record_at bytes d = record { number = d.number; doc = record { name = slice_range bytes d.from d.to; length = d.length } }

abbrev pub records_at : List ℕ → List KeptDoc → List NumberedDoc
records_at bytes docs = map (record_at bytes) docs

-- the name stands within the bytes, and the record is within its limits
pub record IsKept (bytes : List ℕ) (d : KeptDoc) : Type 0 where
  pub order : d.from ≤ d.to
  pub within : d.to ≤ length bytes
  pub fits : FitsDoc (record_at bytes d).doc

abbrev pub names_in : List NumberedDoc → List (List ℕ)
names_in records = map (λ (r : NumberedDoc). r.doc.name) records

abbrev pub lengths_in : List NumberedDoc → List ℕ
lengths_in records = map (λ (r : NumberedDoc). r.doc.length) records

-- records by rising numbers, each within its limits
pub record AreInOrder (records ordered : List NumberedDoc) : Type 0 where
  pub same : IsPermutation records ordered
  pub rising : AllPairs (λ (a b : NumberedDoc). a.number ≤ b.number) ordered
  pub fit : All (λ (r : NumberedDoc). FitsDoc r.doc) ordered
