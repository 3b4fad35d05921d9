use Rattle.shared_lemmas.proofs.Common.{◌∙◌}
use Rattle.sharp_search.proofs.Advancing.{graded}
use Rattle.sharp_search.proofs.front.report_after.Goals as goal

pub returns : goal.returns
returns c plan has sums settled = c.graded.ensures ∙ graded c.args.front.now.scored c.args.k plan c.args.front.now.settled c.report_at-report.result settled (c.report_at-report.ensures plan has sums)
