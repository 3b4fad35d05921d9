-- The index of a index is flat, so a report of its prefix keeps its promises.
use Rattle.std.proofs.Common.{length}
use Rattle.index_model.specs.Flat.{numbered_flat}
use Rattle.session_engine.specs.Plans.{session_plan}
use Rattle.session_desk.specs.Replies.{plan_of_session, scored_prefix, session_report}
use Rattle.session_desk.proofs.laws.reports_of_desks_keep_their_promises.Goals as goal

pub returns-clause-promised : goal.returns-clause-promised
unfolding session_plan session_report
returns-clause-promised c index session is =
    c.reports_keep_their_promises.ensures (length index.names) (scored_prefix index session) session.k (numbered_flat index) session.query.terms (session_report index session) (c.the_flat_list_is_flat.ensures.numbers index is.is_well_formed)
    (c.a_prefix_has_one_report.ensures.report (scored_prefix index session) session.k (plan_of_session index session))
