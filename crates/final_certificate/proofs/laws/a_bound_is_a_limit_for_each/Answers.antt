use Rattle.std.proofs.Common.{length}
use Rattle.final_certificate.proofs.Limits.{within_of_bound, bound_of_within, bounds_are_small}
use Rattle.final_certificate.proofs.laws.a_bound_is_a_limit_for_each.Goals as goal

pub returns-clause-settled : goal.returns-clause-settled
returns-clause-settled c = λ scores limits k bound small settled gains are. settled gains (bound_of_within bound limits scores gains small are)

pub returns-clause-kept : goal.returns-clause-kept
returns-clause-kept c = λ scores limits k bound small kept gains are. kept gains (bound_of_within bound limits scores gains small are)

pub returns-clause-gains : goal.returns-clause-gains
returns-clause-gains c = λ scores gains bound. within_of_bound bound scores gains

pub returns-clause-limits : goal.returns-clause-limits
returns-clause-limits c = λ scores gains bound. bound_of_within bound _ scores gains (bounds_are_small bound (length scores))
