use Rattle.std.proofs.Common.{◌≡◌, ◌++◌, drop, map}
use Rattle.jass_base.specs.declared.doc_record.DocRecord.{DocRecord}
use Rattle.impact_segments.proofs.building.names_of.Given as goal

abbrev pub invariant-loop-doc : goal.invariant-loop-doc
invariant-loop-doc l = l.names ++ map (λ (d : DocRecord). d.name) (drop l.doc-index l.docs) ≡ map (λ (d : DocRecord). d.name) l.docs
