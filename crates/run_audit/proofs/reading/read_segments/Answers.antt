use Rattle.shared_lemmas.proofs.Common.{◌≤◌, ◌+◌, ap, arith, subst, List, get_or, All, take_all, All-more}
use Rattle.jass_base.specs.declared.query_term.QueryTerm.{QueryTerm}
use Rattle.index_model.specs.Querying.{query_segments, query_segments_at, segments_at}
use Rattle.run_audit.proofs.Gathered.{no_term, size_at, size_more, terms_step}
use Rattle.run_audit.proofs.reading.read_segments.Goals as goal

pub loop-named-preserved : goal.loop-named-preserved
loop-named-preserved g c =
    let terms = c.args.index.now.index.terms in
    let named : QueryTerm = get_or c.args.terms.now c.loop-named.named-index no_term in
    let grown = c.in_ok-read_term.ensures.segments in
    let sizes = size_more c.loop-named.segments.items c.read_term.new.segments.items (query_segments_at c.loop-named.term_place named (segments_at terms named.term)) grown in
    record {
      place = ap (λ n. n + 1) c.loop-named.invariant.place;
      segments = terms_step c.loop-named.named-index c.loop-named.term_place c.args.terms.now terms c.loop-named.segments.items c.read_term.new.segments.items (query_segments c.args.index.now.index c.args.terms.now)
          c.loop-named-test.true grown c.loop-named.invariant.segments;
      times = All-more (λ (n : QueryTerm). n.times ≤ 255) c.args.terms.now c.loop-named.named-index no_term c.loop-named-test.true c.loop-named.invariant.times c.in_ok-read_term.ensures.times;
      steps = omega (arith, c.in_ok-read_term.ensures.steps, c.loop-named.invariant.steps, sizes, size_at c.loop-named.term_place named (segments_at terms named.term));
    }

pub returns-clause-times : goal.returns-clause-times
returns-clause-times g c = subst (λ (ns : List QueryTerm). All (λ (n : QueryTerm). n.times ≤ 255) ns) (take_all c.loop-named.named-index c.args.terms.now c.loop-named-test.false) c.loop-named.invariant.times
