use Rattle.std.proofs.Common.{◌∙◌, List, ℕ, ap, subst}
use Rattle.ranking_model.specs.Report.{report_line}
use Rattle.run_audit.specs.Private.Places.{Advances}
use Rattle.run_audit.proofs.reports.check_report.Goals as goal

pub returns-clause-advances : goal.returns-clause-advances
returns-clause-advances c =
    subst (λ (line : List ℕ). Advances c.args.reports.now c.args.place.now c.compare.new.self line)
    (c.as_slice.ensures ∙ c.in_ok-line.ensures ∙ ap (λ id. report_line id c.args.report c.args.query.now.unknown) c.as_str.ensures.bytes) c.compare.ensures.advances
