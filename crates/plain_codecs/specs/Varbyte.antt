-- Varbyte: the gaps of the documents, each as its shortest varint (protobuf.dev, "Encoding"), one after
-- the other.
use Rattle.std.specs.Prelude.{ℕ, List, Result}
use Rattle.jass_base.specs.Gaps.{gaps_of, spelled_gaps, read_gaps}
use Rattle.jass_base.specs.declared.payload_fault.PayloadFault.{PayloadFault}

-- the payload of the documents
abbrev pub varbyte_of : List ℕ → List ℕ
varbyte_of docs = spelled_gaps (gaps_of docs)

-- so many documents below d, or the first fault
abbrev pub read_varbyte : ℕ → ℕ → List ℕ → Result (List ℕ) PayloadFault
read_varbyte d count bytes = read_gaps d 0 count bytes
