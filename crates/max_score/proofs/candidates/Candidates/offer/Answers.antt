use Rattle.shared_lemmas.proofs.Common.{◌+◌, sym, subst}
use Rattle.max_score.specs.Private.Standing.{Stands}
use Rattle.max_score.proofs.Standing.{taken_in}
use Rattle.max_score.proofs.candidates.Candidates.offer.Goals as goal

pub returns-then-len-self-clause-stands : goal.returns-then-len-self-clause-stands
returns-then-len-self-clause-stands c = λ scores stands inside is some.
    c.cut.ensures.stands scores (c.args.hit.doc + 1) (subst (Stands scores c.args.self.now.k (c.args.hit.doc + 1) c.args.self.now.threshold) (sym c.push_reserved.ensures.items)
    (taken_in scores c.args.self.now.k c.args.self.now.threshold c.args.hit c.args.self.now.hits.items stands inside is some))

pub returns-else-len-self-clause-stands : goal.returns-else-len-self-clause-stands
returns-else-len-self-clause-stands c = λ scores stands inside is some.
    subst (Stands scores c.args.self.now.k (c.args.hit.doc + 1) c.args.self.now.threshold) (sym c.push_reserved.ensures.items)
    (taken_in scores c.args.self.now.k c.args.self.now.threshold c.args.hit c.args.self.now.hits.items stands inside is some)
