use Rattle.std.proofs.Common.{◌∙◌, ap}
use Rattle.sharp_bounds.specs.Marks.{unseen_sum}
use Rattle.sharp_search.proofs.Entering.{limit_at}
use Rattle.sharp_search.proofs.deciding.limit_of.Goals as goal

pub returns : goal.returns
returns c = c.unseen_sum.ensures ∙ ap (λ m. unseen_sum m c.args.weights.now) c.mask.ensures ∙ limit_at c.args.masks.now.masks c.args.weights.now c.args.doc c.requires.inside
