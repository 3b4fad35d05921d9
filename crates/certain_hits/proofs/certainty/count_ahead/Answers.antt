use Rattle.shared_lemmas.proofs.Common.{◌≡◌, ◌∙◌, None, Option, option_map, ap, count_by, refl, sym, true}
use Rattle.shared_lemmas.proofs.Lists.{all_of}
use Rattle.certain_hits.specs.declared.foremost.Reach.{Reach}
use Rattle.certain_hits.specs.Private.Reach.{hit_of}
use Rattle.certain_hits.specs.Rule.{stands_ahead}
use Rattle.certain_hits.proofs.Keeping.{all_pass}
use Rattle.certain_hits.proofs.certainty.count_ahead.Goals as goal

pub returns-in-None : goal.returns-in-None
returns-in-None c = sym (ap (λ (o : Option Reach). count_by (stands_ahead (option_map hit_of o)) c.args.hits.now) c.in-None.is
    ∙ all_pass (stands_ahead None) c.args.hits.now (all_of (λ h. stands_ahead None h ≡ true) (λ h. refl) c.args.hits.now))
