use Rattle.shared_lemmas.proofs.Common.{◌∙◌, ap, sym, option_copied}
use Rattle.run_audit.proofs.Steps.{ends_last}
use Rattle.run_audit.proofs.grading.last_stays_before.Goals as goal

pub returns-in-Some : goal.returns-in-Some
returns-in-Some c = c.stays_before_any.ensures ∙ ends_last c.args.bound c.args.hits.now c.in-Some.last.now c.args.behind (sym c.last.ensures.value ∙ ap option_copied c.in-Some.is)
