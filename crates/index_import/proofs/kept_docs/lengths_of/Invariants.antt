use Rattle.std.proofs.Common.{◌≡◌, map, take}
use Rattle.index_import.specs.declared.kept_docs.KeptDoc.{KeptDoc}
use Rattle.index_import.proofs.kept_docs.lengths_of.Given as goal

abbrev pub invariant-loop-doc : goal.invariant-loop-doc
invariant-loop-doc l = l.lengths.items ≡ map (λ (d : KeptDoc). d.length) (take l.doc-index l.docs)
