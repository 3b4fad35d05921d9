use Rattle.std.proofs.Common.{◌∙◌, arith, ap, ap₂, sym, min}
use Rattle.session_engine.proofs.Below.{page_count, QueryTerm}
use Rattle.session_engine.specs.Plans.{postings_at, postings_of_terms}
use Rattle.session_engine.proofs.Gathering.{counted_all, no_term, sum_step}
use Rattle.session_engine.proofs.frames_needed.need.Goals as goal

pub loop-named-preserved : goal.loop-named-preserved
loop-named-preserved g c =
    let terms = (g.S.Source.index c.args.source.now).terms in (
      omega (arith, c.counted-count.ensures),
      sum_step (λ (n : QueryTerm). postings_at terms n.term) c.as_slice-named-items.result.now c.loop-named.named-index c.div_ceil-pages.result c.loop-named.count c.counted-count.result
          (postings_of_terms terms c.as_slice-named-items.result.now) no_term c.loop-named-test.true c.counted-count.ensures c.loop-named.invariant.1,
    )

pub returns : goal.returns
returns g c =
    let terms = (g.S.Source.index c.args.source.now).terms in
    counted_all (λ (n : QueryTerm). postings_at terms n.term) c.as_slice-named-items.result.now c.loop-named.named-index c.loop-named.count c.div_ceil-pages.result (postings_of_terms terms c.as_slice-named-items.result.now)
    c.loop-named-test.false c.loop-named.invariant.0 c.loop-named.invariant.1 ∙ ap₂ min (c.div_ceil-pages.ensures ∙ ap page_count c.docs.ensures)
    (ap (postings_of_terms terms) c.as_slice-named-items.ensures ∙ sym (c.a_session_plan_has_its_postings.ensures (g.S.Source.index c.args.source.now) c.args.query.now.terms))
