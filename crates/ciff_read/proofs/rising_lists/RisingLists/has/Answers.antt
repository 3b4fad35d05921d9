use Rattle.std.proofs.Common.{sym, ◌∙◌, arith}
use Rattle.ciff_read.specs.Private.KeptEntries.{terms_in}
use Rattle.ciff_read.proofs.RisingTerms.{not_seen, upper, lower, found, missing}
use Rattle.ciff_read.proofs.rising_lists.RisingLists.has.Goals as goal

pub returns-then-are_before : goal.returns-then-are_before
returns-then-are_before c = sym (not_seen (terms_in c.args.self.now) c.args.term.now (c.are_before.ensures c.if-are_before.true))

pub halves-preserved-in-Less : goal.halves-preserved-in-Less
halves-preserved-in-Less c =
    upper _ _ c.len-to.ensures.rises _ _ _ c.halves.invariant (omega arith) (omega (arith, c.halves-test.true)) (sym c.order.ensures ∙ c.in-Less.is)

pub halves-preserved : goal.halves-preserved
halves-preserved c =
    lower _ _ c.len-to.ensures.rises _ _ _ c.halves.invariant (omega arith) (omega (arith, c.halves-test.true)) (sym c.order.ensures ∙ c.in-Greater.is)

pub returns-in-Equal : goal.returns-in-Equal
returns-in-Equal c =
    sym (found _ _ c.len-to.ensures.rises _ _ _ c.halves.invariant (omega arith) (omega (arith, c.halves-test.true)) (sym c.order.ensures ∙ c.in-Equal.is))

pub returns : goal.returns
returns c = sym (missing _ _ c.len-to.ensures.rises _ _ c.halves.invariant (omega (arith, c.halves-test.false)))
