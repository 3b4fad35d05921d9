-- The norm is that of the posting's document.
use Rattle.std.proofs.Common.{refl, sym, ap, ◌∙◌, slice_index}
use Rattle.weights.specs.declared.weighting.Rule.{Rule}
use Rattle.impact_segments.specs.Collections.{weight_in}
use Rattle.impact_segments.proofs.Weights.{weight_by}
use Rattle.impact_segments.proofs.one_list.ListRule.weigh.Goals as goal

pub returns-in-Bm25-clause-value : goal.returns-in-Bm25-clause-value
returns-in-Bm25-clause-value c = λ count rare.
    let lengths = c.args.self.now.lengths.now in
    let total = c.args.self.now.total in
    weight_by lengths total count c.args.posting.tf c.args.posting.doc c.args.self.now.rare (slice_index lengths c.args.posting.doc) c.norm-norm.result c.saturated.result
    c.saturated.ensures.value rare c.requires.limit c.requires.tf.1 c.norm-norm.ensures refl
    ∙ ap (λ (r : Rule). weight_in r lengths total count c.args.posting) (sym c.in-Bm25.is)
