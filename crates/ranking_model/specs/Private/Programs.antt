-- What the plain programs say of their own steps.
use Rattle.std.specs.Prelude.{ℕ, ◌-◌, Bool, false, List, [], ◌∷◌, ◌++◌, length, slice_get}
use Rattle.std.specs.Option.{option_map_or}
use Rattle.ranking_model.specs.declared.posting.WeightedPosting.{WeightedPosting}
use Rattle.ranking_model.specs.declared.plan_segment.PlanSegment.{PlanSegment}
use Rattle.ranking_model.specs.Plan.{is_of}

-- the last of the segments with one document more
abbrev pub last_with : List PlanSegment → ℕ → List PlanSegment
last_with [] doc = []
last_with (segment ∷ []) doc = record segment { docs = segment.docs ++ doc ∷ [] } ∷ []
last_with (segment ∷ next ∷ segments) doc = segment ∷ last_with (next ∷ segments) doc

-- whether the last segment is the posting's
abbrev pub ends_in : List PlanSegment → WeightedPosting → Bool
ends_in segments p = option_map_or (λ segment. is_of segment p) (slice_get segments (length segments - 1)) false
