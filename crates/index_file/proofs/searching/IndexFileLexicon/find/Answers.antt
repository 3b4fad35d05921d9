use Rattle.std.proofs.Common.{refl, sym, ◌∙◌}
use Rattle.index_file.proofs.Halves.{texts_rise, upper, lower, found, missing}
use Rattle.index_file.specs.Places.{term_at}
use Rattle.index_file.proofs.searching.IndexFileLexicon.find.Goals as goal

pub halves-preserved-in-Less : goal.halves-preserved-in-Less
halves-preserved-in-Less c =
    let terms = c.args.self.now.index.terms in
    let middle = c.middle_of-middle.result in
    upper terms c.args.term.now c.is_checked.ensures.index.rising c.halves.from c.halves.to middle (term_at terms middle) c.halves.invariant c.middle_of-middle.ensures.from c.middle_of-middle.ensures.to refl (sym c.order.ensures ∙ c.in-Less.is)

pub halves-preserved : goal.halves-preserved
halves-preserved c =
    let terms = c.args.self.now.index.terms in
    let middle = c.middle_of-middle.result in
    lower terms c.args.term.now c.is_checked.ensures.index.rising c.halves.from c.halves.to middle (term_at terms middle) c.halves.invariant c.middle_of-middle.ensures.from c.middle_of-middle.ensures.to refl (sym c.order.ensures ∙ c.in-Greater.is)

pub returns-in-Equal-clause-number : goal.returns-in-Equal-clause-number
returns-in-Equal-clause-number c =
    let terms = c.args.self.now.index.terms in
    let middle = c.middle_of-middle.result in
    sym (found terms c.args.term.now c.is_checked.ensures.index.rising c.halves.from c.halves.to middle (term_at terms middle) c.halves.invariant c.middle_of-middle.ensures.from c.middle_of-middle.ensures.to refl (sym c.order.ensures ∙ c.in-Equal.is))

pub returns-in-Equal-clause-rising : goal.returns-in-Equal-clause-rising
returns-in-Equal-clause-rising c = texts_rise c.args.self.now.index.terms c.is_checked.ensures.index.rising

pub returns-clause-number : goal.returns-clause-number
returns-clause-number c = sym (missing c.args.self.now.index.terms c.args.term.now c.is_checked.ensures.index.rising c.halves.from c.halves.to c.halves.invariant c.halves-test.false)

pub returns-clause-rising : goal.returns-clause-rising
returns-clause-rising c = texts_rise c.args.self.now.index.terms c.is_checked.ensures.index.rising
