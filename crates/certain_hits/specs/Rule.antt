-- What tells how many are certain; this project's. That it tells so for all gains is proved: nobody needs to believe
-- it.
use Rattle.std.specs.Prelude.{ℕ, Bool, true, List, Option, Some, None, count_by}
use Rattle.std.specs.Ordering.{is_lt}
use Rattle.jass_base.specs.declared.answer.Hit.{Hit}
use Rattle.ranking_model.specs.declared.plan.QueryPlan.{QueryPlan}
use Rattle.ranking_model.specs.Finality.{raised}
use Rattle.ranking_model.specs.Scores.{rank_cmp, first_ranked, runner_up, scores_after}
use Rattle.sharp_bounds.specs.Unseen.{unseen_bounds}

-- what each document may reach: its score with its limit
abbrev pub reaches : List ℕ → List ℕ → List ℕ
reaches limits scores = raised scores limits

-- the best reach after the first k, if more than k documents can reach anything
abbrev pub rival : ℕ → List ℕ → List ℕ → Option Hit
rival k limits scores = runner_up (reaches limits scores) k

-- a hit ranks before the rival, where there is one
abbrev pub stands_ahead : Option Hit → Hit → Bool
stands_ahead None hit = true
stands_ahead (Some rival) hit = is_lt (rank_cmp hit rival)

-- how many of the first k stand ahead of the rival
abbrev pub certain_count : ℕ → List ℕ → List ℕ → ℕ
certain_count k limits scores = count_by (stands_ahead (rival k limits scores)) (first_ranked scores k)

-- how many are certain after the first n segments
abbrev pub certain_after : ℕ → QueryPlan → ℕ → ℕ
certain_after n plan k = certain_count k (unseen_bounds n plan) (scores_after n plan)
