use Rattle.std.proofs.Common.{◌∙◌, ◌+◌, ◌-◌, ◌≡◌, ℕ, length, sym, ap, arith, is_lt}
use Rattle.ciff_read.specs.Private.KeptEntries.{terms_in}
use Rattle.ciff_read.proofs.RisingTerms.{all_before, terms_count}
use Rattle.ciff_read.proofs.rising_lists.RisingLists.are_before.Goals as goal

pub returns : goal.returns
returns c is =
    let items = c.args.self.now in
    let n : ℕ = c.len-len.result in
    let size : length (terms_in items) ≡ (n - 1) + 1 = omega (arith, terms_count items, c.len-len.ensures.len, c.if-len-eq0.false) in
    all_before (terms_in items) c.args.term.now c.len-len.ensures.rises (n - 1) size (sym (ap is_lt c.order.ensures) ∙ sym c.is_lt.ensures ∙ is)
