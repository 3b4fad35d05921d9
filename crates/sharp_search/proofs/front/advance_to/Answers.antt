use Rattle.shared_lemmas.proofs.Common.{arith}
use Rattle.sharp_search.proofs.Advancing.{started, further}
use Rattle.sharp_search.proofs.front.advance_to.Goals as goal

pub segments-init : goal.segments-init
segments-init g c = started (g.S.Source.index c.args.source.now) c.args.terms.now c.args.k c.args.to c.args.front.now c.args.pool.now c.args.steps.now c.requires.stands c.requires.order (c.calls_on_one_chain.ensures.none c.args.pool.now _)

pub overflow_add-postings : goal.overflow_add-postings
overflow_add-postings g c =
    let most = c.one_entry_more_is_scored.ensures.most (g.S.Source.index c.args.source.now) c.args.terms.now c.advance-postings.new.front.scored in
    let small = (c.a_session_plan_is_small.ensures (g.S.Source.index c.args.source.now) c.args.terms.now c.is_searchable.ensures c.requires.terms c.requires.planned.times).postings in
    omega (arith, c.segments.invariant.paid, c.advance-postings.ensures.postings, most, small)
