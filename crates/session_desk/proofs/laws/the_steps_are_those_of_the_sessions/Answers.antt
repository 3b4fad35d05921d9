-- A grant pays for no less than the one before it, and for no more than the sum.
use Rattle.std.proofs.Common.{arith}
use Rattle.ranking_model.specs.Plan.{granted_with}
use Rattle.session_desk.specs.Replies.{plan_of_session}
use Rattle.session_desk.specs.State.{granted_more}
use Rattle.session_desk.proofs.Counting.{IsPaid, Rises, all_counted}
use Rattle.session_desk.proofs.Grants.{granted_rises, size_is, size_rises}
use Rattle.session_desk.proofs.laws.the_steps_are_those_of_the_sessions.Goals as goal

pub returns : goal.returns
returns c index frames lines =
    let rises : Rises index = λ e budget most. omega (
      arith,
      size_is index e,
      size_is index (granted_more budget e),
      size_rises c.a_prefix_is_resumed.ensures.size c.a_prefix_is_resumed.ensures.prefix e.granted (granted_with e.granted budget) (plan_of_session index e).segments (granted_rises e budget most),
    ) in
    let paid : IsPaid index = λ e. omega (arith, size_is index e, c.the_prefix_is_the_longest.ensures.fits e.granted (plan_of_session index e).segments) in
    all_counted index rises paid frames lines
