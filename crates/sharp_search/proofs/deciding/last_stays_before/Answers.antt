use Rattle.shared_lemmas.proofs.Common.{◌∙◌, ap, sym, Some, option_copied}
use Rattle.final_certificate.specs.Rule.{is_safe}
use Rattle.final_certificate.proofs.Steps.{ends_last}
use Rattle.sharp_search.proofs.deciding.last_stays_before.Goals as goal

pub returns-in-Some : goal.returns-in-Some
returns-in-Some c = c.stays_before.ensures ∙ ap (λ m. is_safe m c.in-Some.last.now (record { doc = c.args.doc; score = 0 })) c.from.ensures
    ∙ ends_last c.args.bound c.args.hits.now c.in-Some.last.now (Some (record { doc = c.args.doc; score = 0 })) (sym c.last.ensures.value ∙ ap option_copied c.in-Some.is)
