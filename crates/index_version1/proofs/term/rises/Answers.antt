use Rattle.shared_lemmas.proofs.Common.{ap, sym, ◌∙◌, ◌-◌, arith, length, slice_cmp, nat_tests}
use Rattle.std.proofs.Common.{is_lt, nat_cmp}
use Rattle.index_layout.specs.Reading.{rises_behind}
use Rattle.index_version1.specs.declared.old_term.OldTerm.{OldTerm}
use Rattle.index_version1.proofs.TermSteps.{last_of}
use Rattle.index_version1.proofs.term.rises.Goals as goal

pub returns : goal.returns
returns c =
    let before = c.args.before.now in
    c.is_below.ensures ∙ ap (λ bytes. is_lt (slice_cmp nat_cmp bytes c.args.term.now)) (c.as_bytes.ensures.value ∙ c.as_str-last.ensures.bytes)
    ∙ ap (λ (t : OldTerm). is_lt (slice_cmp nat_cmp t.term c.args.term.now)) (sym c.index-before-before.is)
    ∙ ap (λ o. rises_behind o c.args.term.now) (sym (last_of before (length before - 1) c.index-before-before.result (grind (arith, nat_tests, c.if-is_empty.ensures)) c.index-before-before.is))
