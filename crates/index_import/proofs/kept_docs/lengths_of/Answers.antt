-- One length more.
use Rattle.shared_lemmas.proofs.Common.{◌++◌, ◌∷◌, [], get_or, ℕ, List, ap, sym, ◌∙◌}
use Rattle.index_import.specs.declared.kept_docs.KeptDoc.{KeptDoc}
use Rattle.index_import.proofs.KeptDocs.{lengths_next}
use Rattle.index_import.proofs.kept_docs.lengths_of.Goals as goal

pub loop-doc-preserved : goal.loop-doc-preserved
loop-doc-preserved c =
    let docs : List KeptDoc = c.args.docs.now in
    let i = c.loop-doc.doc-index in
    let none : KeptDoc = record { number = 0; length = 0; from = 0; to = 0 } in
    c.in_ok-push.ensures.items ∙ ap (λ (lengths : List ℕ). lengths ++ (get_or docs i none).length ∷ []) c.loop-doc.invariant
    ∙ sym (lengths_next docs i none c.loop-doc-test.true)
