-- What the functions below `grade` look at; this project's. That they decide what a grade is, for all gains, is proved: nobody needs
-- to believe it.
use Rattle.std.specs.Prelude.{ℕ, ◌+◌, ◌==◌, ◌&&◌, Bool, true, List, [], ◌∷◌, Option, Some, None, length, nat_lt, if◌then◌else◌}
use Rattle.std.specs.Ordering.{is_lt}
use Rattle.std.specs.Option.{is_none}
use Rattle.jass_base.specs.declared.answer.Hit.{Hit}
use Rattle.jass_base.specs.declared.answer.Grade.{Grade}
use Rattle.jass_base.specs.declared.answer.Report.{Report}
use Rattle.jass_base.specs.declared.answer.Grade.TheVariants.{Final, Set, Open}
use Rattle.ranking_model.specs.declared.standing.Standing.{Standing}
use Rattle.ranking_model.specs.declared.plan.QueryPlan.{QueryPlan}
use Rattle.ranking_model.specs.Scores.{rank_cmp, scores_after, bound_after, standing_of}
use Rattle.ranking_model.specs.Report.{report_of}

-- a document with a gain
abbrev pub gained : ℕ → Hit → Hit
gained gain hit = record { doc = hit.doc; score = hit.score + gain }

-- the first comes before the second, even where only the second gains, and gains the bound
abbrev pub is_safe : ℕ → Hit → Hit → Bool
is_safe bound ahead behind = is_lt (rank_cmp ahead (gained bound behind))

-- the same, where there may be none behind
abbrev pub is_safe_from : ℕ → Hit → Option Hit → Bool
is_safe_from bound ahead None = true
is_safe_from bound ahead (Some behind) = is_safe bound ahead behind

-- each hit is safe from the next
abbrev pub are_safe : ℕ → List Hit → Bool
are_safe bound [] = true
are_safe bound (ahead ∷ []) = true
are_safe bound (ahead ∷ behind ∷ hits) = is_safe bound ahead behind && are_safe bound (behind ∷ hits)

-- the last hit is safe from another document
abbrev pub ends_safe : ℕ → List Hit → Option Hit → Bool
ends_safe bound [] other = true
ends_safe bound (last ∷ []) other = is_safe_from bound last other
ends_safe bound (ahead ∷ behind ∷ hits) other = ends_safe bound (behind ∷ hits) other

-- a document without a score, as a hit
abbrev pub unscored : Option ℕ → Option Hit
unscored None = None
unscored (Some doc) = Some (record { doc = doc; score = 0 })

-- no other document can enter: where k are hit, the last is safe from the others, and else each document is hit
abbrev pub do_documents_stay : ℕ → ℕ → List Hit → Option Hit → Option ℕ → Bool
do_documents_stay k bound hits runner_up untouched = if nat_lt (length hits) k then is_none untouched else ends_safe bound hits runner_up && ends_safe bound hits (unscored untouched)

-- the grade that this rule gives a standing
unfoldable pub grade_by : ℕ → ℕ → Standing → Grade
grade_by k bound s = if bound == 0 then Final else (if do_documents_stay k bound s.hits s.runner_up s.least_untouched then (if are_safe bound s.hits then Final else Set) else Open)

-- the report after the first n segments, with the grade that this rule gives
abbrev pub report_by : ℕ → QueryPlan → ℕ → Report
report_by n plan k = report_of n plan (grade_by k (bound_after n plan) (standing_of (scores_after n plan) k))
