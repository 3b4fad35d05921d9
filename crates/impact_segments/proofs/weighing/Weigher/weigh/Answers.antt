-- The norm is that of the posting's document.
use Rattle.std.proofs.Common.{sym, ap, ◌∙◌, arith}
use Rattle.weights.specs.declared.weighting.Rule.{Rule}
use Rattle.impact_segments.specs.Collections.{weight_in}
use Rattle.impact_segments.specs.Private.Weighed.{lengths_in, total_length}
use Rattle.impact_segments.proofs.Weights.{norm_at, weight_is}
use Rattle.impact_segments.proofs.weighing.Weigher.weigh.Goals as goal

pub saturated-requires-clause-norm_limit : goal.saturated-requires-clause-norm_limit
saturated-requires-clause-norm_limit c =
    let norm = norm_at c.args.self.now.docs.now c.args.self.now.norms.items c.args.posting.doc c.index.result.now c.args.self.now.norms_are c.requires.below c.index.ensures in
    omega (arith, norm)

pub returns-in-Bm25-clause-value : goal.returns-in-Bm25-clause-value
returns-in-Bm25-clause-value c = λ count rare.
    weight_is c.args.self.now.docs.now count c.args.posting.tf c.args.posting.doc c.args.rare c.index.result.now c.saturated.result c.saturated.ensures.value rare c.requires.rare_limit c.requires.tf.1
    (norm_at c.args.self.now.docs.now c.args.self.now.norms.items c.args.posting.doc c.index.result.now c.args.self.now.norms_are c.requires.below c.index.ensures)
    ∙ ap (λ (r : Rule). weight_in r (lengths_in c.args.self.now.docs.now) (total_length c.args.self.now.docs.now) count c.args.posting) (sym c.in-Bm25.is)
