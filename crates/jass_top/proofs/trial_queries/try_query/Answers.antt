use Rattle.std.proofs.Common.{ap, ◌∙◌}
use Rattle.jass_top.proofs.Below.{Query, need_of, chain_of}
use Rattle.jass_top.proofs.Pools.{closed}
use Rattle.jass_top.proofs.trial_queries.try_query.Goals as goal

pub returns-clause-ready : goal.returns-clause-ready
returns-clause-ready g c =
    let index = g.S.Source.index c.args.source.now in let session = c.try_grants-more.new.session in let pool = c.try_grants-more.new.pool in
    closed index (need_of index c.in-Ok.query.terms) c.args.pool.now c.open.new.pool pool c.close.new.pool (chain_of session) (chain_of c.in-Ok-open.session) c.requires.ready c.in-Ok-open.ensures.spare c.try_grants-more.ensures.leaves c.close.ensures.chains c.close.ensures.spare
    (c.a_standing_session_has_its_chain.ensures.in_use session index pool c.try_grants-more.ensures.stands)
    (c.a_standing_session_has_its_chain.ensures.promise session index pool c.try_grants-more.ensures.stands ∙ ap (λ (q : Query). need_of index q.terms) (c.try_grants-more.ensures.same.query ∙ c.in-Ok-open.ensures.query))
