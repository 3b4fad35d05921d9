use Rattle.certain_hits.proofs.Keeping.{one_limit, up_to_is, within_is}
use Rattle.certain_hits.proofs.laws.a_bound_is_a_limit_for_all.Goals as goal

pub returns-clause-up_to : goal.returns-clause-up_to
returns-clause-up_to c = up_to_is

pub returns-clause-within : goal.returns-clause-within
returns-clause-within c = within_is

pub returns-clause-limits : goal.returns-clause-limits
returns-clause-limits c = one_limit
