use Rattle.shared_lemmas.proofs.Common.{◌≡◌, ◌==◌, false, take, slice_index, list_any}
use Rattle.index_version1.proofs.marks.has_marked.Given as goal

abbrev pub invariant-loop-doc : goal.invariant-loop-doc
invariant-loop-doc l = list_any (λ doc. slice_index l.seen doc == l.mark) (take l.doc-index l.docs) ≡ false
