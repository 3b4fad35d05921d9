-- The prefix that is paid for grows with the grants.
use Rattle.std.proofs.Common.{arith}
use Rattle.ranking_model.specs.Plan.{granted_with}
use Rattle.session_desk.specs.Replies.{plan_of_session}
use Rattle.session_desk.specs.State.{granted_more}
use Rattle.session_desk.proofs.Grants.{granted_rises, size_is, size_rises}
use Rattle.session_desk.proofs.laws.grants_pay_for_the_steps.Goals as goal

pub returns-clause-most : goal.returns-clause-most
returns-clause-most c index session = omega (arith, size_is index session, c.the_prefix_is_the_longest.ensures.fits session.granted (plan_of_session index session).segments)

pub returns-clause-paid : goal.returns-clause-paid
returns-clause-paid c index session budget most = omega (
  arith,
  size_is index session,
  size_is index (granted_more budget session),
  size_rises c.a_prefix_is_resumed.ensures.size c.a_prefix_is_resumed.ensures.prefix session.granted (granted_with session.granted budget) (plan_of_session index session).segments (granted_rises session budget most),
)
