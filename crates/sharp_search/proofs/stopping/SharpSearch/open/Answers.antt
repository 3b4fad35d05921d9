use Rattle.session_engine.proofs.First.{given_back}
use Rattle.sharp_search.proofs.stopping.SharpSearch.open.Goals as goal

pub returns-in-Err-clause-refused : goal.returns-in-Err-clause-refused
returns-in-Err-clause-refused g c =
    given_back c.args.pool.now c.promise.new.self c.give_back.new.self c.in-Ok-promise.chain c.in-Err.chain c.need-need.result c.in-Ok-promise.ensures.promised c.in-Err.ensures.err c.give_back.ensures.frames c.give_back.ensures.chains
