-- The name stands behind the others.
use Rattle.shared_lemmas.proofs.Common.{◌++◌, ◌∷◌, [], List, ℕ, ap, ◌∙◌, arith, IsUtf8-from_is_utf8}
use Rattle.index_import.proofs.Below.{NumberedDoc}
use Rattle.index_import.specs.Private.KeptDocs.{numbered}
use Rattle.index_import.proofs.KeptDocs.{kept_more, records_more}
use Rattle.index_import.proofs.kept_docs.KeptDocs.push.Goals as goal

pub invariant_of-self-2 : goal.invariant_of-self-2
invariant_of-self-2 c =
    let f = c.self.inside in
    let grown = c.in_ok-extended.ensures.items ∙ ap (λ (name : List ℕ). f.bytes.items ++ name) (c.as_bytes.ensures.value ∙ c.as_str.ensures.bytes) in
    kept_more _ _ _ grown _ _ c.self.invariant _ c.in_ok-push.ensures.items (omega (arith, c.len-from.ensures)) (omega (arith, c.len-to.ensures))
    (record { text = IsUtf8-from_is_utf8 c.args.item.name c.args.item.name_is_text; name = c.args.item.name_fits; length = c.args.item.length_in_range })

pub returns : goal.returns
returns c =
    let f = c.self.inside in
    let grown = c.in_ok-extended.ensures.items ∙ ap (λ (name : List ℕ). f.bytes.items ++ name) (c.as_bytes.ensures.value ∙ c.as_str.ensures.bytes) in
    records_more _ _ _ grown _ _ c.self.invariant _ c.in_ok-push.ensures.items (omega (arith, c.len-from.ensures)) (omega (arith, c.len-to.ensures))
    ∙ ap (λ (records : List NumberedDoc). records ++ numbered (c.args.number, c.args.item) ∷ []) c.self.view_is
