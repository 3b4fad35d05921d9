-- The last document is the greatest.
use Rattle.shared_lemmas.proofs.Common.{◌-◌, ◌<◌, ◌^◌, arith, length, subst, sym, nat_tests, get_or_from_slice_get}
use Rattle.jass_base.specs.declared.posting.Posting.{Posting}
use Rattle.index_import.proofs.Words.{all_have_words}
use Rattle.index_import.proofs.kept_postings.have_words.Goals as goal

pub returns-then-last-lt-DOC_LIMIT : goal.returns-then-last-lt-DOC_LIMIT
returns-then-last-lt-DOC_LIMIT c small =
    let ps = c.args.postings.now in
    let none : Posting = record { doc = 0; tf = 0 } in
    all_have_words ps c.args.most none c.requires.rising c.requires.most
    (subst (λ (p : Posting). p.doc < 2 ^ 21) (sym (get_or_from_slice_get ps (length ps - 1) c.in-Some.last.now none (sym c.in-Some.ensures.value))) c.if-last-lt-DOC_LIMIT.true)
    (grind (arith, small, nat_tests))
