-- The documents as the sort leaves them.
use Rattle.shared_lemmas.proofs.Common.{rules, List, subst, All-permutation, IsNonDecreasingBy-from_sort_by}
use Rattle.index_import.proofs.Below.{NumberedDoc}
use Rattle.index_import.specs.Private.KeptDocs.{AreInOrder, IsKept, records_at}
use Rattle.index_import.specs.declared.kept_docs.KeptDoc.{KeptDoc}
use Rattle.index_import.proofs.KeptDocs.{ordered_docs}
use Rattle.index_import.proofs.kept_docs.KeptDocs.put_in_order.Goals as goal

pub invariant_of-self : goal.invariant_of-self
invariant_of-self c =
    let f = c.self.inside in
    All-permutation (IsKept f.bytes.items) f.docs.items c.sort_by.new.self.items c.sort_by.ensures.permutation c.self.invariant

pub invariant_of-self-2 : goal.invariant_of-self-2
invariant_of-self-2 c =
    let f = c.self.inside in
    All-permutation (IsKept f.bytes.items) f.docs.items c.sort_by.new.self.items c.sort_by.ensures.permutation c.self.invariant

pub returns : goal.returns
returns c =
    let f = c.self.inside in
    subst (λ (records : List NumberedDoc). AreInOrder records (records_at f.bytes.items c.sort_by.new.self.items)) c.self.view_is
    (ordered_docs f.bytes.items f.docs.items c.sort_by.new.self.items c.self.invariant c.sort_by.ensures.permutation
    (IsNonDecreasingBy-from_sort_by (λ (d : KeptDoc). d.number) c.sort_by.new.self.items c.in_ok-sort_by.ensures.sorted (λ a r f' called. search rules)))
