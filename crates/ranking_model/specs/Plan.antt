-- The plan of a query and its prefixes. Segments by falling weight, taken whole, are Lin and Trotman's ("Anytime Ranking
-- for Impact-Ordered Indexes", ICTIR 2015); which of equal weights comes first is this project's.
use Rattle.std.specs.Prelude.{ℕ, zero, suc, ◌+◌, ◌-◌, ◌^◌, min, Bool, ◌&&◌, ◌==◌, nat_le, List, [], ◌∷◌, ◌++◌, length, map, take, sum_by, fold, slice_get, if◌then◌else◌}
use Rattle.std.specs.Option.{option_map_or}
use Rattle.std.specs.declared.cmp.Ordering.{Ordering}
use Rattle.std.specs.Ordering.{nat_cmp, ordering_then}
use Rattle.jass_base.specs.declared.answer.Budget.{Budget}
use Rattle.jass_base.specs.declared.answer.Budget.TheVariants.{Postings, All}
use Rattle.ranking_model.specs.declared.entry.Entry.{Entry}
use Rattle.jass_base.specs.declared.query_term.QueryTerm.{QueryTerm}
use Rattle.ranking_model.specs.declared.posting.WeightedPosting.{WeightedPosting}
use Rattle.ranking_model.specs.declared.plan_segment.PlanSegment.{PlanSegment}
use Rattle.ranking_model.specs.declared.plan.QueryPlan.{QueryPlan}
use Rattle.ranking_model.specs.Order.{sorted}
use Rattle.ranking_model.specs.Postings.{weighted_postings}

-- a segment is the postings of one term of the query and one weight
abbrev pub is_of : PlanSegment → WeightedPosting → Bool
is_of segment p = segment.term_place == p.term_place && segment.weight == p.weight

-- the segment that a posting begins
abbrev pub begun : WeightedPosting → PlanSegment
begun p = record { term_place = p.term_place; weight = p.weight; docs = p.doc ∷ [] }

-- the posting joins its segment, or begins one behind the others
abbrev pub joined : List PlanSegment → WeightedPosting → List PlanSegment
joined [] p = begun p ∷ []
joined (segment ∷ segments) p = if is_of segment p then record segment { docs = segment.docs ++ p.doc ∷ [] } ∷ segments else segment ∷ joined segments p

-- the segments of some postings, in the order in which they begin
abbrev pub grouped : List WeightedPosting → List PlanSegment
grouped postings = fold joined [] postings

-- the plan's order: falling weight, then rising number of postings, then the term's rising place in the query
abbrev pub plan_cmp : PlanSegment → PlanSegment → Ordering
plan_cmp a b = ordering_then (ordering_then (nat_cmp b.weight a.weight) (nat_cmp (length a.docs) (length b.docs))) (nat_cmp a.term_place b.term_place)

-- the postings of a segment
abbrev pub postings_of : PlanSegment → List WeightedPosting
postings_of segment = map (λ doc. record { term_place = segment.term_place; doc = doc; weight = segment.weight }) segment.docs

-- the segments of a query's postings, in the plan's order
abbrev pub plan_segments : List WeightedPosting → List PlanSegment
plan_segments postings = sorted plan_cmp (grouped postings)

-- the plan of a query on an index: the number of documents, the number of the query's known terms, and the segments
unfoldable pub plan_of : ℕ → List (Entry ℕ) → List QueryTerm → QueryPlan
plan_of docs flat terms = record { docs = docs; terms = length terms; segments = plan_segments (weighted_postings flat terms) }

-- the number of postings of the first n segments
abbrev pub size_of_first : ℕ → List PlanSegment → ℕ
size_of_first n segments = sum_by (λ segment. length segment.docs) (take n segments)

-- the greatest number up to n that passes the test, or 0
abbrev pub greatest_up_to : ℕ → (ℕ → Bool) → ℕ
greatest_up_to zero test = 0
greatest_up_to (suc n) test = if test (suc n) then suc n else greatest_up_to n test

-- the longest prefix of the plan that the budget pays for: the greatest n whose first n segments have at most so many postings
abbrev pub prefix_within : ℕ → List PlanSegment → ℕ
prefix_within budget segments = greatest_up_to (length segments) (λ n. nat_le (size_of_first n segments) budget)

-- what a grant of all stands for, and where the sum of grants stops
abbrev pub most : ℕ
most = 2 ^ 64 - 1

abbrev pub amount_of : Budget → ℕ
amount_of (Postings n) = n
amount_of All = most

-- what one more budget makes of what was granted before it
abbrev pub granted_with : ℕ → Budget → ℕ
granted_with granted budget = min most (granted + amount_of budget)

-- the budgets granted so far, in one number
abbrev pub granted_sum : List Budget → ℕ
granted_sum budgets = min most (sum_by amount_of budgets)

-- the weight of the segment at a place, or 0 where there is none
abbrev pub weight_at : ℕ → List PlanSegment → ℕ
weight_at at segments = option_map_or (λ segment. segment.weight) (slice_get segments at) 0

-- the weight of the last of the first n segments, 0 where n is 0
abbrev pub cutoff_after : ℕ → List PlanSegment → ℕ
cutoff_after zero segments = 0
cutoff_after (suc n) segments = weight_at n segments

-- the weight of the segment after the first n, 0 where there is none
abbrev pub next_after : ℕ → List PlanSegment → ℕ
next_after n segments = weight_at n segments
