use Rattle.shared_lemmas.proofs.Common.{replicate, ap, ◌∙◌, sym, rules}
use Rattle.run_audit.proofs.Added.{zero_at_first}
use Rattle.run_audit.proofs.adding.clear_scores.Goals as goal

pub returns : goal.returns
returns c = c.fill.ensures.after (λ y h. search rules) ∙ ap (λ n. replicate n 0) c.requires ∙ sym (zero_at_first c.args.plan.now)
