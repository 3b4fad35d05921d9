use Rattle.shared_lemmas.proofs.Common.{◌≤◌, ◌∙◌, ap, subst, sym}
use Rattle.session_engine.proofs.Below.{Report, size_of_first}
use Rattle.session_engine.specs.Standing.{granted_of, plan_over}
use Rattle.session_engine.proofs.laws.grants_pay_for_a_session.Goals as goal

pub returns-clause-steps : goal.returns-clause-steps
returns-clause-steps c = λ s index pool stands. ap (λ (r : Report). r.postings) stands.report

pub returns-clause-paid : goal.returns-clause-paid
returns-clause-paid c = λ s index pool stands.
    let segments = (plan_over index s).segments in
    let postings = ap (λ (r : Report). r.postings) stands.report ∙ ap (λ n. size_of_first n segments) stands.prefix in
    subst (λ n. n ≤ granted_of s) (sym postings) (c.the_prefix_is_the_longest.ensures.fits (granted_of s) segments)
