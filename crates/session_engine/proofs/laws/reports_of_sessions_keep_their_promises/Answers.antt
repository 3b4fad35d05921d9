use Rattle.std.proofs.Common.{length, sym, subst}
use Rattle.session_engine.proofs.Below.{Report, numbered_flat, IsReport}
use Rattle.session_engine.specs.Plans.{session_plan}
use Rattle.session_engine.specs.Standing.{plan_over}
use Rattle.session_engine.proofs.laws.reports_of_sessions_keep_their_promises.Goals as goal

pub returns-clause-promised : goal.returns-clause-promised
unfolding session_plan
returns-clause-promised c s index pool is stands =
    c.reports_keep_their_promises.ensures (length index.names) s.scored s.k (numbered_flat index) s.query.terms s.report (c.the_flat_list_is_flat.ensures.numbers index is.is_well_formed)
    (subst (λ (r : Report). IsReport s.scored (plan_over index s) s.k r) (sym stands.report) (c.a_prefix_has_one_report.ensures.report s.scored s.k (plan_over index s)))
