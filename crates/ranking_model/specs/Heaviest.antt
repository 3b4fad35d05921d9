-- No equally many postings weigh more than the scored ones. The measure of an anytime ranking by falling weight (Lin and
-- Trotman 2015); the statement is this project's.
use Rattle.std.specs.Prelude.{◌≡◌, ℕ, ◌*◌, ◌≤◌, Bool, List, length, take, sum_by}
use Rattle.std.specs.List.{items_where_true}
use Rattle.ranking_model.specs.declared.posting.WeightedPosting.{WeightedPosting}
use Rattle.ranking_model.specs.declared.plan_segment.PlanSegment.{PlanSegment}
use Rattle.ranking_model.specs.Plan.{plan_segments, size_of_first}

-- the total weight of the first n segments
abbrev pub weight_of_first : ℕ → List PlanSegment → ℕ
weight_of_first n segments = sum_by (λ segment. segment.weight * length segment.docs) (take n segments)

-- any choice of as many postings as the first n segments have weighs at most what these weigh
abbrev pub IsHeaviest : ℕ → List WeightedPosting → Type 0
IsHeaviest n postings = (choice : List Bool) → length (items_where_true choice postings) ≡ size_of_first n (plan_segments postings) →
    sum_by (λ p. p.weight) (items_where_true choice postings) ≤ weight_of_first n (plan_segments postings)
