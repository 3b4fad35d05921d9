use Rattle.shared_lemmas.proofs.Common.{◌∙◌, ap, length, subst, sym}
use Rattle.max_score.specs.Private.Standing.{Stands}
use Rattle.max_score.proofs.Selecting.{length_kept, selected}
use Rattle.max_score.proofs.candidates.Candidates.cut.Goals as goal

pub returns-clause-stands : goal.returns-clause-stands
returns-clause-stands c = λ scores doc stands.
    subst (λ hits. Stands scores c.args.self.now.k doc c.copy_first-self.result hits.items) (sym c.swap.ensures.x_after) (selected c.copy_first-self.ensures.first scores doc c.args.self.now.threshold stands)

pub returns-clause-left : goal.returns-clause-left
returns-clause-left c = ap (λ hits. length hits.items) c.swap.ensures.x_after ∙ length_kept c.copy_first-self.ensures.first
