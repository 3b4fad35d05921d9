use Rattle.std.proofs.Common.{List, ℕ, ◌++◌, [], ◌∷◌, ap, sym, subst, ◌∙◌, All, arith}
use Rattle.jass_base.specs.Terms.{BytesRise}
use Rattle.ciff_read.specs.declared.kept_lists.ListPlace.{ListPlace}
use Rattle.ciff_read.specs.Private.KeptEntries.{terms_in}
use Rattle.ciff_read.proofs.RisingEntries.{entries_stay, rising_stay, entries_more, rising_more}
use Rattle.ciff_read.proofs.rising_lists.RisingLists.push.Goals as goal

pub invariant_of-self-in-Err : goal.invariant_of-self-in-Err
invariant_of-self-in-Err c =
    let f = c.self.inside in
    rising_stay _ _ _ c.in_ok-extend_from_slice.ensures.items _ _ c.self.invariant c.in-Err.ensures.items

pub returns-in-Err-clause-err : goal.returns-in-Err-clause-err
returns-in-Err-clause-err c =
    let f = c.self.inside in
    entries_stay _ _ _ c.in_ok-extend_from_slice.ensures.items _ _ c.self.invariant c.in-Err.ensures.items ∙ c.self.view_is

pub invariant_of-self-2 : goal.invariant_of-self-2
invariant_of-self-2 c =
    let f = c.self.inside in
    let grown = c.in_ok-extend_from_slice.ensures.items ∙ ap (λ (term : List ℕ). f.bytes.items ++ term) c.as_bytes.ensures.value in
    let before = subst (λ (entries : List (List ℕ × ListPlace)). All (λ t. BytesRise t c.args.term.now) (terms_in entries)) (sym c.self.view_is) c.requires in
    rising_more _ _ _ grown _ _ c.self.invariant
    _ c.in-Ok.ensures.items (omega (arith, c.len-from.ensures)) (omega (arith, c.len-to.ensures)) (omega (arith, c.if-len-ge-MOST_LISTS.false, c.len.ensures)) before

pub returns-clause-ok : goal.returns-clause-ok
returns-clause-ok c =
    let f = c.self.inside in
    let grown = c.in_ok-extend_from_slice.ensures.items ∙ ap (λ (term : List ℕ). f.bytes.items ++ term) c.as_bytes.ensures.value in
    entries_more _ _ _ grown _ _ c.self.invariant _ c.in-Ok.ensures.items (omega (arith, c.len-from.ensures)) (omega (arith, c.len-to.ensures))
    ∙ ap (λ (entries : List (List ℕ × ListPlace)). entries ++ (c.args.term.now, c.args.place) ∷ []) c.self.view_is
