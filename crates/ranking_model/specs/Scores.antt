-- Scores, the bound and the ranking. Scores as sums of impacts are Lin and Trotman's (ICTIR 2015); ties by document number
-- and the bound are this project's.
use Rattle.std.specs.Prelude.{◌≡◌, ◌≢◌, ℕ, ◌+◌, ◌*◌, ◌<◌, ◌≤◌, max, ◌==◌, false, List, [], ◌∷◌, length, map, filter, take, drop, sum_by, count_by, slice_get, slice_index, slice_set, position, AllPairs, Contains, Option, if◌then◌else◌}
use Rattle.std.specs.List.{AllByRecursion, range_with_len}
use Rattle.std.specs.declared.cmp.Ordering.{Ordering}
use Rattle.std.specs.Ordering.{nat_cmp, ordering_then, is_gt}
use Rattle.jass_base.specs.declared.answer.Hit.{Hit}
use Rattle.ranking_model.specs.declared.posting.WeightedPosting.{WeightedPosting}
use Rattle.ranking_model.specs.declared.plan_segment.PlanSegment.{PlanSegment}
use Rattle.ranking_model.specs.declared.plan.QueryPlan.{QueryPlan}
use Rattle.ranking_model.specs.declared.standing.Standing.{Standing}
use Rattle.ranking_model.specs.Order.{sorted}

-- what a segment adds to a document's score: its weight for each of its postings of the document
abbrev pub gain_of : ℕ → PlanSegment → ℕ
gain_of doc segment = segment.weight * count_by (λ d. d == doc) segment.docs

-- what a posting adds to a document's score
abbrev pub adds : ℕ → WeightedPosting → ℕ
adds doc p = if p.doc == doc then p.weight else 0

-- the scores of all documents after the first n segments
abbrev pub scores_after : ℕ → QueryPlan → List ℕ
scores_after n plan = map (λ doc. sum_by (gain_of doc) (take n plan.segments)) (range_with_len 0 plan.docs)

-- the scores with a weight added at each of these documents, as often as they name it
abbrev pub added : ℕ → List ℕ → List ℕ → List ℕ
added weight [] scores = scores
added weight (doc ∷ docs) scores = added weight docs (slice_set scores doc (slice_index scores doc + weight))

-- the greatest of some numbers, 0 where there is none
abbrev pub greatest : List ℕ → ℕ
greatest [] = 0
greatest (x ∷ xs) = max x (greatest xs)

-- the greatest weight of a place among some segments, 0 where it has none
abbrev pub greatest_weight : ℕ → List PlanSegment → ℕ
greatest_weight term_place segments = greatest (map (λ segment. segment.weight) (filter (λ segment. segment.term_place == term_place) segments))

-- the bound: over the query's terms, the sum of the greatest weight among the term's segments after the first n
abbrev pub bound_after : ℕ → QueryPlan → ℕ
bound_after n plan = sum_by (λ term_place. greatest_weight term_place (drop n plan.segments)) (range_with_len 0 plan.terms)

-- the documents that have a score, from a document on
abbrev pub hits_from : ℕ → List ℕ → List Hit
hits_from doc [] = []
hits_from doc (score ∷ scores) = if score == 0 then hits_from (doc + 1) scores else record { doc = doc; score = score } ∷ hits_from (doc + 1) scores

-- the order of answers: falling score, then rising document
abbrev pub rank_cmp : Hit → Hit → Ordering
rank_cmp a b = ordering_then (nat_cmp b.score a.score) (nat_cmp a.doc b.doc)

-- the first m documents by rank, without those of score 0
abbrev pub first_ranked : List ℕ → ℕ → List Hit
first_ranked scores m = take m (sorted rank_cmp (hits_from 0 scores))

-- no hit comes after one of the others
abbrev pub AreAhead : List Hit → List Hit → Type 0
AreAhead hits others = AllByRecursion (λ hit. AllByRecursion (λ other. is_gt (rank_cmp hit other) ≡ false) others) hits

-- some of the documents that have a score, each once and with its score
pub record AreHitsOf (scores : List ℕ) (hits : List Hit) : Type 0 where
  pub scored : AllByRecursion (λ hit. (hit.doc < length scores) × (1 ≤ hit.score) × (hit.score ≡ slice_index scores hit.doc)) hits
  pub once : AllPairs (λ a b. a.doc ≢ b.doc) hits

-- hits among which is each document whose score is at least the floor
abbrev pub HaveAllFrom : ℕ → List ℕ → List Hit → Type 0
HaveAllFrom floor scores hits = (doc : ℕ) → doc < length scores → 1 ≤ slice_index scores doc → floor ≤ slice_index scores doc → Contains hits (record { doc = doc; score = slice_index scores doc })

-- the hit after the first k, if there is one
abbrev pub runner_up : List ℕ → ℕ → Option Hit
runner_up scores k = slice_get (first_ranked scores (k + 1)) k

-- the least document without a score, if there is one
abbrev pub least_untouched : List ℕ → Option ℕ
least_untouched scores = position (λ score. score == 0) scores

-- the first k of some scores, with the two documents that come next to them
abbrev pub standing_of : List ℕ → ℕ → Standing
standing_of scores k = record { hits = first_ranked scores k; runner_up = runner_up scores k; least_untouched = least_untouched scores }

-- the answer after the first n segments
abbrev pub top_k : ℕ → QueryPlan → ℕ → List Hit
top_k n plan k = first_ranked (scores_after n plan) k
