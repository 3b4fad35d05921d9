-- What the plain programs say of their own steps. No definition of an answer rests on it.
use Rattle.std.specs.Prelude.{◌≤◌, List, All}
use Rattle.std.specs.declared.cmp.Ordering.{Ordering}
use Rattle.std.specs.Ordering.{nat_cmp, ordering_then}
use Rattle.ranking_model.specs.declared.posting.WeightedPosting.{WeightedPosting}

-- by the term's rising place in the query, then falling weight: the order in which the postings of an index come
abbrev pub place_cmp : WeightedPosting → WeightedPosting → Ordering
place_cmp a b = ordering_then (nat_cmp a.term_place b.term_place) (nat_cmp b.weight a.weight)

-- no posting weighs more than the greatest impact, 65,535, named 255 times
abbrev pub AreLight : List WeightedPosting → Type 0
AreLight postings = All (λ p. p.weight ≤ 16711425) postings
