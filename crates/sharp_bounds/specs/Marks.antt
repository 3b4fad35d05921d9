-- What masks tell of a plan: the terms that each document was seen in, and what the others may still give it. This project's.
use Rattle.std.specs.Prelude.{◌≡◌, ℕ, ◌<◌, ◌==◌, Bool, not, List, [], ◌∷◌, length, map, filter, take, drop, sum_by, slice_index, slice_set}
use Rattle.std.specs.List.{range_with_len}
use Rattle.std.specs.Int.{bit_at}
use Rattle.ranking_model.specs.declared.plan.QueryPlan.{QueryPlan}
use Rattle.ranking_model.specs.Scores.{greatest_weight}
use Rattle.sharp_bounds.specs.Masks.{with_place}
use Rattle.sharp_bounds.specs.Unseen.{has_posting}

-- whether a mask has the bit of a place
abbrev pub has_place : ℕ → ℕ → Bool
has_place mask place = bit_at mask place == 1

-- masks with the bit of a place set for each of some documents in turn
abbrev pub marked : ℕ → List ℕ → List ℕ → List ℕ
marked place [] masks = masks
marked place (doc ∷ docs) masks = marked place docs (slice_set masks doc (with_place (slice_index masks doc) place))

-- each document's mask has the bits of the terms that have a posting of it among the first n segments, and no others
pub record AreMarkedTo (n : ℕ) (plan : QueryPlan) (masks : List ℕ) : Type 0 where
  pub each : length masks ≡ plan.docs
  pub bits : (doc place : ℕ) → doc < plan.docs → has_place (slice_index masks doc) place ≡ has_posting place doc (take n plan.segments)

-- the greatest weight of each term among the segments after the first n: that of its next one
abbrev pub next_weights : ℕ → QueryPlan → List ℕ
next_weights n plan = map (λ term_place. greatest_weight term_place (drop n plan.segments)) (range_with_len 0 plan.terms)

-- the sum of the weights at the places whose bits a mask hasn't
abbrev pub unseen_sum : ℕ → List ℕ → ℕ
unseen_sum mask weights = sum_by (slice_index weights) (filter (λ place. not (has_place mask place)) (range_with_len 0 (length weights)))
