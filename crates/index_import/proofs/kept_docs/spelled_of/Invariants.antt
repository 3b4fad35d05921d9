use Rattle.std.proofs.Common.{take}
use Rattle.index_write.specs.Spelled.{AreSpelledNames}
use Rattle.index_import.specs.Private.KeptDocs.{names_in, records_at}
use Rattle.index_import.proofs.kept_docs.spelled_of.Given as goal

abbrev pub invariant-loop-doc : goal.invariant-loop-doc
invariant-loop-doc l = AreSpelledNames l.names (names_in (records_at l.bytes (take l.doc-index l.docs)))
