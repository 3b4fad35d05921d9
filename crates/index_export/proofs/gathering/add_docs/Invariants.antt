use Rattle.std.proofs.Common.{◌≡◌, ◌++◌, drop}
use Rattle.index_export.specs.Private.Gathering.{doc_postings}
use Rattle.index_export.proofs.gathering.add_docs.Given as goal

abbrev pub invariant-loop-doc : goal.invariant-loop-doc
invariant-loop-doc l = l.postings.items ++ doc_postings l.impact (drop l.doc-index l.docs) ≡ l.fn.postings.items ++ doc_postings l.impact l.docs
