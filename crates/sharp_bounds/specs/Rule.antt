-- What decides whether an answer is sharply final; this project's. That it decides so for all gains is proved: nobody needs to
-- believe it.
use Rattle.std.specs.Prelude.{◌≡◌, ℕ, ◌<◌, ◌≤◌, ◌==◌, ◌&&◌, ◌||◌, Bool, true, List, [], ◌∷◌, Option, Some, length, drop, nat_lt, slice_index, if◌then◌else◌}
use Rattle.std.specs.List.{AllByRecursion, list_all, position_or_len, range_with_len}
use Rattle.std.specs.Option.{is_none}
use Rattle.jass_base.specs.declared.answer.Hit.{Hit}
use Rattle.jass_base.specs.declared.answer.Grade.{Grade}
use Rattle.jass_base.specs.declared.answer.Grade.TheVariants.{Final}
use Rattle.ranking_model.specs.declared.plan.QueryPlan.{QueryPlan}
use Rattle.ranking_model.specs.Order.{sorted}
use Rattle.ranking_model.specs.Plan.{prefix_within}
use Rattle.ranking_model.specs.Scores.{rank_cmp, hits_from, first_ranked, least_untouched, scores_after, bound_after, standing_of}
use Rattle.final_certificate.specs.Rule.{is_safe, ends_safe, unscored, grade_by}
use Rattle.sharp_bounds.specs.Unseen.{unseen_bounds}

-- limits of gains for some scores: none is above the bound, and a document without a score has the bound for its limit
pub record AreLimits (bound : ℕ) (scores limits : List ℕ) : Type 0 where
  pub each : length limits ≡ length scores
  pub within : AllByRecursion (λ limit. limit ≤ bound) limits
  pub untouched : (doc : ℕ) → doc < length scores → slice_index scores doc ≡ 0 → slice_index limits doc ≡ bound

-- each hit is safe from the next, even where that alone gains, and gains its limit
abbrev pub are_safe_within : (ℕ → ℕ) → List Hit → Bool
are_safe_within limit [] = true
are_safe_within limit (ahead ∷ []) = true
are_safe_within limit (ahead ∷ behind ∷ hits) = is_safe (limit behind.doc) ahead behind && are_safe_within limit (behind ∷ hits)

-- no document without a score can enter: where k are hit, the last is safe from the least of them, and else there is none
abbrev pub do_untouched_stay : ℕ → ℕ → List Hit → Option ℕ → Bool
do_untouched_stay k bound hits untouched = if nat_lt (length hits) k then is_none untouched else ends_safe bound hits (unscored untouched)

-- none of these other documents can: the last hit is safe from each
abbrev pub do_others_stay : (ℕ → ℕ) → List Hit → List Hit → Bool
do_others_stay limit hits others = list_all (λ other. ends_safe (limit other.doc) hits (Some other)) others

-- the documents that have a score and aren't among the first k
abbrev pub ranked_behind : List ℕ → ℕ → List Hit
ranked_behind scores k = drop k (sorted rank_cmp (hits_from 0 scores))

-- whether the first k are settled: nothing can be gained, or the hits keep their order and nobody else can enter
unfoldable pub settles : ℕ → ℕ → List ℕ → List ℕ → Bool
settles k bound limits scores = bound == 0 || (are_safe_within (slice_index limits) (first_ranked scores k)
    && (do_untouched_stay k bound (first_ranked scores k) (least_untouched scores) && do_others_stay (slice_index limits) (first_ranked scores k) (ranked_behind scores k)))

-- whether the rule settles the answer after the first n segments
abbrev pub is_sharp : ℕ → QueryPlan → ℕ → Bool
is_sharp n plan k = settles k (bound_after n plan) (unseen_bounds n plan) (scores_after n plan)

-- the least prefix up to that of the budget whose answer the rule settles, and that of the budget where there is none
abbrev pub stop_at : ℕ → QueryPlan → ℕ → ℕ
stop_at budget plan k = position_or_len (λ n. is_sharp n plan k) (range_with_len 0 (prefix_within budget plan.segments))

-- the grade that the rule gives
abbrev pub sharp_grade : ℕ → QueryPlan → ℕ → Grade
sharp_grade n plan k = if is_sharp n plan k then Final else grade_by k (bound_after n plan) (standing_of (scores_after n plan) k)
