use Rattle.std.proofs.Common.{ap, arith, length, refl, sym, ◌∙◌}
use Rattle.shard_search.proofs.Joins.{terms_counted}
use Rattle.shard_search.proofs.Unioned.{index_terms}
use Rattle.index_file.proofs.Halves.{texts_rise, upper, lower, found, missing}
use Rattle.index_file.specs.Places.{term_at}
use Rattle.shard_search.specs.Union.{UnionView, union_index}
use Rattle.shard_search.proofs.searching.ShardsLexicon.find.Goals as goal

pub halves-preserved-in-Less : goal.halves-preserved-in-Less
halves-preserved-in-Less c =
    let terms = (union_index c.args.self.now).terms in
    let middle = c.middle_of-middle.result in
    upper terms c.args.term.now c.is_searchable.ensures.is_well_formed.rising c.halves.from c.halves.to middle (term_at terms middle) c.halves.invariant c.middle_of-middle.ensures.from c.middle_of-middle.ensures.to refl (sym c.order.ensures ∙ c.in-Less.is)

pub halves-preserved : goal.halves-preserved
halves-preserved c =
    let terms = (union_index c.args.self.now).terms in
    let middle = c.middle_of-middle.result in
    lower terms c.args.term.now c.is_searchable.ensures.is_well_formed.rising c.halves.from c.halves.to middle (term_at terms middle) c.halves.invariant c.middle_of-middle.ensures.from c.middle_of-middle.ensures.to refl (sym c.order.ensures ∙ c.in-Greater.is)

pub returns-in-Equal-clause-number : goal.returns-in-Equal-clause-number
returns-in-Equal-clause-number c =
    let terms = (union_index c.args.self.now).terms in
    let middle = c.middle_of-middle.result in
    sym (found terms c.args.term.now c.is_searchable.ensures.is_well_formed.rising c.halves.from c.halves.to middle (term_at terms middle) c.halves.invariant c.middle_of-middle.ensures.from c.middle_of-middle.ensures.to refl (sym c.order.ensures ∙ c.in-Equal.is))

pub returns-in-Equal-clause-rising : goal.returns-in-Equal-clause-rising
returns-in-Equal-clause-rising c = texts_rise (union_index c.args.self.now).terms c.is_searchable.ensures.is_well_formed.rising

pub returns-clause-number : goal.returns-clause-number
returns-clause-number c = sym (missing (union_index c.args.self.now).terms c.args.term.now c.is_searchable.ensures.is_well_formed.rising c.halves.from c.halves.to c.halves.invariant c.halves-test.false)

pub returns-clause-rising : goal.returns-clause-rising
returns-clause-rising c = texts_rise (union_index c.args.self.now).terms c.is_searchable.ensures.is_well_formed.rising

pub halves-init : goal.halves-init
halves-init c =
    let f = c.self.inside in
    let told = ap (λ (v : UnionView). (union_index v).terms) (sym c.self.view_is) ∙ index_terms f.parts f.table.pieces ∙ c.self.invariant.terms in
    let count = ap length told ∙ terms_counted f.parts f.table in
    let known = c.self.invariant.counted in
    record {
      order = omega arith;
      within = omega (arith, count, known);
      below = λ i less. absurd (omega (arith, less));
      above = λ i high inside. absurd (omega (arith, high, inside, count, known));
    }
