-- The norm that is cut off leaves the same weight.
use Rattle.std.proofs.Common.{◌<◌, ℕ, max, sym, ap, ap₂, ◌∙◌, subst}
use Rattle.weights.specs.declared.weighting.Rule.{Rule}
use Rattle.weights.specs.Weighting.{idf, length_norm, saturated, weight_of}
use Rattle.weights.proofs.Bounds.{saturated_cut}
use Rattle.weights.proofs.weighting.weight_of.Goals as goal

pub returns-in-Bm25-clause-value : goal.returns-in-Bm25-clause-value
returns-in-Bm25-clause-value c =
    let P : ℕ → Type 0 = λ (r : ℕ). r < 27648 in
    c.saturated.ensures.value
    ∙ ap₂ (λ (r k : ℕ). max 1 (saturated r c.args.tf k)) c.idf.ensures.value c.length_norm.ensures.value
    ∙ saturated_cut (idf c.args.docs c.args.n) c.args.tf (length_norm c.args.docs c.args.total c.args.length)
    (subst P c.idf.ensures.value c.idf.ensures.limit) c.requires.tf_limit
    ∙ ap (λ (r : Rule). weight_of r c.args.docs c.args.total c.args.n c.args.tf c.args.length) (sym c.in-Bm25.is)
