use Rattle.std.proofs.Common.{◌∙◌, ap, arith}
use Rattle.jass_words.specs.Words.{texts}
use Rattle.jass_top.proofs.Trying.{steps_are, sums_more}
use Rattle.jass_top.proofs.trial_queries.try_queries.Goals as goal

pub returns-in-Err-tried-clause-steps : goal.returns-in-Err-tried-clause-steps
returns-in-Err-tried-clause-steps g c =
    let words = texts c.as_slice.result.now in
    let drawn = ap texts c.as_slice.ensures.value ∙ c.in-Ok-draw_query.ensures.words in
    let counted = steps_are (g.S.Source.index c.args.source.now) c.args.terms c.args.queries c.queries.counter c.queries.draws c.draw_query.new.draws c.queries.sums c.queries.sums words c.queries-test.true drawn c.in-Ok-draw_query.ensures.state in
    let before = c.queries.invariant.steps in let later = c.queries.invariant.later in let added = c.in-Err-tried.ensures.steps in
    let rose = added.0 in let most = added.1 in
    (omega arith, omega arith)

pub queries-preserved : goal.queries-preserved
queries-preserved g c =
    let words = texts c.as_slice.result.now in let more = c.in-Ok-tried.more in
    let drawn = ap texts c.as_slice.ensures.value ∙ c.in-Ok-draw_query.ensures.words in
    let moved = c.in-Ok-draw_query.ensures.state in
    let counted = steps_are (g.S.Source.index c.args.source.now) c.args.terms c.args.queries c.queries.counter c.queries.draws c.draw_query.new.draws c.queries.sums more words c.queries-test.true drawn moved in
    let before = c.queries.invariant.steps in let later = c.queries.invariant.later in let added = c.in-Ok-tried.ensures.steps in
    record {
      ready = c.in-Ok-tried.ensures.ready;
      small = c.in-Ok-tried.ensures.small c.queries.counter c.queries.invariant.small;
      summed = sums_more (g.S.Source.index c.args.source.now) c.args.terms c.args.queries c.queries.counter c.queries.draws c.draw_query.new.draws c.queries.sums more words c.queries-test.true drawn moved _ c.in-Ok-tried.ensures.sums c.queries.invariant.summed;
      steps = omega arith;
      later = omega arith;
    }
