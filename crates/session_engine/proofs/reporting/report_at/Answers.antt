use Rattle.std.proofs.Common.{◌∙◌, sym, ap}
use Rattle.ranking_model.specs.Scores.{first_ranked, runner_up, least_untouched}
use Rattle.session_engine.proofs.Reports.{reported}
use Rattle.session_engine.proofs.reporting.report_at.Goals as goal

pub returns : goal.returns
returns c segments has sums =
    let hits = c.hits.ensures c.args.pool.now c.requires.settled ∙ (λ i. first_ranked (sums i) (c.requires.asked i)) in
    let up = c.runner_up.ensures c.args.pool.now c.requires.settled ∙ (λ i. runner_up (sums i) (c.requires.asked i)) in
    let untouched = c.least_untouched.ensures ∙ ap least_untouched sums in
    reported c.args.count segments c.args.k c.args.postings c.len.result c.cutoff.result c.next.result c.rest_bound-bound.result c.grade.result c.hits.result.now c.runner_up.result c.least_untouched.result
    (c.requires.postings ∙ sym (c.prefixes_are_those_of_the_plan.ensures.size c.args.plan.now segments c.args.count has))
    (c.len.ensures ∙ sym (c.a_segment_for_each_entry.ensures.many c.args.plan.now segments has)) (c.cutoff.ensures segments has) (c.next.ensures segments has)
    (c.rest_bound-bound.ensures ∙ sym (c.weights_are_those_of_the_plan.ensures.bound c.args.plan.now segments c.args.count has))
    c.grade.ensures.rule hits up untouched
