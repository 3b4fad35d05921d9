use Rattle.shared_lemmas.proofs.Common.{refl, sym, ap, ◌∙◌, map, map-map}
use Rattle.ranking_model.specs.Plan.{plan_cmp}
use Rattle.segment_plan.specs.Entries.{entry_of, entry_cmp}
use Rattle.segment_plan.specs.Shape.{shape, entry_shape}
use Rattle.segment_plan.proofs.Shapes.{of_segment, of_entry, sorted_alike}
use Rattle.segment_plan.proofs.laws.a_plan_of_heads_has_the_shape.Goals as goal

pub returns : goal.returns
returns c = λ terms heads segments plan alike many sorts. record {
  terms = many;
  segments = ap (map shape) sorts ∙ sorted_alike segments (map (entry_of terms) heads) (alike ∙ sym (map-map entry_shape (entry_of terms) heads))
      (c.sorted_goes_through_a_map.ensures of_segment plan_cmp entry_cmp segments (λ x y. refl))
      (c.sorted_goes_through_a_map-2.ensures of_entry entry_cmp entry_cmp (map (entry_of terms) heads) (λ x y. refl));
}
