use Rattle.std.proofs.Common.{length, ap, ◌∙◌, arith}
use Rattle.session_engine.specs.Standing.{k_of, plan_over, prefix_of}
use Rattle.jass_top.proofs.Trying.{top_few}
use Rattle.jass_top.proofs.trial_queries.try_grant.Goals as goal

pub with-requires-clause-few : goal.with-requires-clause-few
with-requires-clause-few g c =
    let index = g.S.Source.index c.args.source.now in let s = c.grant-report.new.self in
    let is = ap length (c.answer.ensures index c.grant-report.new.pool c.grant-report.ensures.stands) in
    let few = top_few (prefix_of s) (plan_over index s) (k_of s) in
    let ten = c.grant-report.ensures.same.k ∙ c.requires.hits in
    omega (arith, is, few, ten)
