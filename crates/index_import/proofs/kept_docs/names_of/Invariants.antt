use Rattle.std.proofs.Common.{◌≡◌, take}
use Rattle.index_import.specs.Private.KeptDocs.{names_in, records_at}
use Rattle.index_import.proofs.kept_docs.names_of.Given as goal

abbrev pub invariant-loop-doc : goal.invariant-loop-doc
invariant-loop-doc l = l.names ≡ names_in (records_at l.bytes (take l.doc-index l.docs))
