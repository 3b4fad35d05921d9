-- The plan of a query as the list of its segments, and what it tells. Segments by falling weight are Lin and Trotman's
-- ("Anytime Ranking for Impact-Ordered Indexes", ICTIR 2015); which of equal weights comes first, and the bound, are this
-- project's.
use Rattle.std.specs.Prelude.{ℕ, ◌*◌, ◌<◌, ◌≤◌, ◌≡◌, ◌⊎◌, List, length, map, filter, take, drop, sum_by, All, AllPairs, ◌==◌, nat_le}
use Rattle.std.specs.List.{range_with_len, slice_index_or}
use Rattle.std.specs.declared.cmp.Ordering.{Ordering}
use Rattle.std.specs.Ordering.{nat_cmp, ordering_then}
use Rattle.jass_base.specs.declared.query_term.QueryTerm.{QueryTerm}
use Rattle.ranking_model.specs.Order.{sorted}
use Rattle.ranking_model.specs.Plan.{greatest_up_to}
use Rattle.ranking_model.specs.Scores.{greatest}
use Rattle.segment_plan.specs.declared.entry.PlanHead.{PlanHead}
use Rattle.segment_plan.specs.declared.entry.PlanEntry.{PlanEntry}

-- the number of the query's terms, and the segments in the order in which they are scored
pub record PlanView : Type 0 where
  pub terms : ℕ
  pub entries : List PlanEntry

-- of two segments of one term, which differ, the later has the lower impact
abbrev pub Fall : PlanHead → PlanHead → Type 0
Fall a b = ((a.segment < b.segment) × (b.impact < a.impact)) ⊎ ((b.segment < a.segment) × (a.impact < b.impact))

-- segments of the query's terms, each once, with postings
pub record AreHeads (terms : List QueryTerm) (heads : List PlanHead) : Type 0 where
  pub inside : All (λ head. head.term_place < length terms) heads
  pub impacts : All (λ head. 1 ≤ head.impact) heads
  pub counts : All (λ head. 1 ≤ head.count) heads
  pub fall : AllPairs (λ a b. a.term_place ≡ b.term_place → Fall a b) heads

-- how often a query names the term at a place
abbrev pub times_at : List QueryTerm → ℕ → ℕ
times_at terms term_place = (slice_index_or terms term_place (record { term = 0; times = 0 })).times

-- a segment with its weight: impact times how often the query names the term
abbrev pub entry_of : List QueryTerm → PlanHead → PlanEntry
entry_of terms head = record { term_place = head.term_place; segment = head.segment; weight = head.impact * times_at terms head.term_place; count = head.count }

-- the plan's order: falling weight, then rising number of postings, then the term's rising place in the query
abbrev pub entry_cmp : PlanEntry → PlanEntry → Ordering
entry_cmp a b = ordering_then (ordering_then (nat_cmp b.weight a.weight) (nat_cmp a.count b.count)) (nat_cmp a.term_place b.term_place)

-- the plan of a query with these segments
abbrev pub plan_with : List QueryTerm → List PlanHead → PlanView
plan_with terms heads = record { terms = length terms; entries = sorted entry_cmp (map (entry_of terms) heads) }

-- the number of postings of some segments
abbrev pub postings_of : List PlanEntry → ℕ
postings_of entries = sum_by (λ entry. entry.count) entries

-- how many segments from the front on the budget pays for: the greatest n whose first n have at most so many postings
abbrev pub entries_within : ℕ → List PlanEntry → ℕ
entries_within budget entries = greatest_up_to (length entries) (λ n. nat_le (postings_of (take n entries)) budget)

-- the greatest weight of a place among some segments, 0 where it has none
abbrev pub greatest_at : ℕ → List PlanEntry → ℕ
greatest_at term_place entries = greatest (map (λ entry. entry.weight) (filter (λ entry. entry.term_place == term_place) entries))

-- the bound after the first n segments: over the query's terms, the sum of the greatest weight among the term's others
abbrev pub rest_bound : ℕ → PlanView → ℕ
rest_bound n plan = sum_by (λ term_place. greatest_at term_place (drop n plan.entries)) (range_with_len 0 plan.terms)
