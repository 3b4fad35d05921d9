use Rattle.std.proofs.Common.{◌≡◌, ◌++◌, drop, map}
use Rattle.jass_base.specs.CiffViews.{doc_data}
use Rattle.index_export.specs.Private.Gathering.{name_records}
use Rattle.index_export.proofs.documents.records_of.Given as goal

abbrev pub invariant-loop-doc : goal.invariant-loop-doc
invariant-loop-doc l = map doc_data l.docs ++ name_records (drop l.doc l.index.index.names) ≡ name_records l.index.index.names
