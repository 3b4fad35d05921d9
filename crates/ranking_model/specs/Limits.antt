-- When the numbers of a plan fit the types of a report.
use Rattle.std.specs.Prelude.{ℕ, ◌<◌, ◌^◌, length, take, sum_by}
use Rattle.std.specs.List.{AllByRecursion}
use Rattle.ranking_model.specs.declared.plan.QueryPlan.{QueryPlan}
use Rattle.ranking_model.specs.Plan.{size_of_first}
use Rattle.ranking_model.specs.Scores.{gain_of, bound_after}

-- the documents of the segments are those of the index, and counts, bounds and scores fit 32 bits
pub record IsSmall (plan : QueryPlan) : Type 0 where
  pub documents : AllByRecursion (λ segment. AllByRecursion (λ doc. doc < plan.docs) segment.docs) plan.segments
  pub postings : size_of_first (length plan.segments) plan.segments < 2 ^ 32
  pub segments : length plan.segments < 2 ^ 32
  pub bounds : (n : ℕ) → bound_after n plan < 2 ^ 32
  pub scores : (n doc : ℕ) → sum_by (gain_of doc) (take n plan.segments) < 2 ^ 32
