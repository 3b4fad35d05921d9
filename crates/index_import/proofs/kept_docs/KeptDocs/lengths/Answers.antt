use Rattle.shared_lemmas.proofs.Common.{◌≡◌, ◌∙◌, List, ℕ, IfOk, ap, map, subst}
use Rattle.index_import.specs.Private.KeptDocs.{lengths_in}
use Rattle.index_import.specs.declared.kept_docs.KeptDoc.{KeptDoc}
use Rattle.index_import.proofs.KeptDocs.{lengths_at}
use Rattle.index_import.proofs.kept_docs.KeptDocs.lengths.Goals as goal

pub returns : goal.returns
returns c =
    let f = c.self.inside in
    subst (λ (all : List ℕ). IfOk c.lengths_of.result (λ lengths. lengths.items ≡ all))
    (ap (map (λ (d : KeptDoc). d.length)) c.deref.ensures.value ∙ lengths_at f.bytes.items f.docs.items ∙ ap lengths_in c.self.view_is) c.lengths_of.ensures
