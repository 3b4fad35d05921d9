use Rattle.std.proofs.Common.{◌≡◌, ◌-◌, ◌≤◌, [], length, drop}
use Rattle.ciff_read.specs.Private.Places.{records_of, AreMarked}
use Rattle.ciff_read.specs.Reading.{docs_at}
use Rattle.ciff_read.proofs.collection.read_documents.Given as goal

abbrev pub invariant-documents : goal.invariant-documents
invariant-documents l = record {
  read : docs_at l.count l.count [] l.from (drop l.from l.bytes) ≡ docs_at (l.count - l.counter) l.count (records_of l.documents) l.at (drop l.at l.bytes);
  marked : AreMarked l.documents;
  within : l.at ≤ length l.bytes;
  count : length (records_of l.documents) ≡ l.counter;
}
