-- What a document may still gain, where no term gives it a second posting. The bound for all documents is that of `bound_after`;
-- its part for one document is this project's.
use Rattle.std.specs.Prelude.{ℕ, ◌==◌, ◌&&◌, not, Bool, List, map, filter, take, drop, sum_by}
use Rattle.std.specs.List.{list_any, range_with_len}
use Rattle.ranking_model.specs.declared.plan_segment.PlanSegment.{PlanSegment}
use Rattle.ranking_model.specs.declared.plan.QueryPlan.{QueryPlan}
use Rattle.ranking_model.specs.Scores.{greatest_weight}

-- whether one of some segments has a posting of the document for the term of this place
abbrev pub has_posting : ℕ → ℕ → List PlanSegment → Bool
has_posting term_place doc segments = list_any (λ segment. segment.term_place == term_place && list_any (λ d. d == doc) segment.docs) segments

-- the places of the terms of which the document has no posting among the first n segments
abbrev pub unseen_places : ℕ → QueryPlan → ℕ → List ℕ
unseen_places n plan doc = filter (λ term_place. not (has_posting term_place doc (take n plan.segments))) (range_with_len 0 plan.terms)

-- the part of the bound over these terms: the sum of the greatest weight among each one's segments after the first n
abbrev pub unseen_bound : ℕ → QueryPlan → ℕ → ℕ
unseen_bound n plan doc = sum_by (λ term_place. greatest_weight term_place (drop n plan.segments)) (unseen_places n plan doc)

-- that of each document
abbrev pub unseen_bounds : ℕ → QueryPlan → List ℕ
unseen_bounds n plan = map (λ doc. unseen_bound n plan doc) (range_with_len 0 plan.docs)
