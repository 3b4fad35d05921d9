-- A sharply final answer stands and stays sharply final; the rule tells which are, and where to stop.
use Rattle.shared_lemmas.proofs.Common.{◌≡◌, ℕ, ◌<◌, ◌≤◌, length, map, get_or, true, false, not, refl, sym, ap, subst, ◌∙◌, arith, inl, inr, ◌⊎◌, take, sum_by}
use Rattle.shared_lemmas.proofs.Common.{range_with_len, cases_Bool, cases_lt, fails_before_first, length-range_with_len, length-map-range_with_len, AllByRecursion}
use Rattle.std.proofs.lemmas.List.Sums.{passes_at_first, prefix_len-le-length}
use Rattle.std.proofs.lemmas.List.FromFn.{get_or-range_with_len}
use Rattle.jass_base.specs.declared.answer.Grade.{Grade}
use Rattle.jass_base.specs.declared.answer.Grade.TheVariants.{Final, Set, Open}
use Rattle.ranking_model.specs.declared.plan.QueryPlan.{QueryPlan}
use Rattle.ranking_model.specs.declared.plan_segment.PlanSegment.{PlanSegment}
use Rattle.ranking_model.specs.Plan.{prefix_within}
use Rattle.ranking_model.specs.Scores.{gain_of, scores_after, bound_after, standing_of}
use Rattle.ranking_model.specs.Finality.{AreGainsWithin, GainsBy, raised, first_documents, IsFinal, IsGradeOf, IsGrade}
use Rattle.ranking_model.proofs.Rest.{raised_map}
use Rattle.final_certificate.specs.Rule.{grade_by}
use Rattle.final_certificate.proofs.Limits.{bound_of_within}
use Rattle.final_certificate.proofs.Deciding.{graded_standing}
use Rattle.sharp_bounds.specs.Unseen.{unseen_bound, unseen_bounds}
use Rattle.sharp_bounds.specs.Sharpness.{IsSharpFinal, IsChangedWithin, IsStop, IsSharpGrade}
use Rattle.sharp_bounds.specs.Rule.{is_sharp, stop_at, sharp_grade}
use Rattle.sharp_bounds.proofs.Between.{UpTo, up_trans, up_raised, up_maps, settled_between, settled_narrower, between_gains}
use Rattle.sharp_bounds.proofs.Reaching.{IsOnce, reach_at, reach_falls, score_rises, unseen_within, are_limits}
use Rattle.sharp_bounds.proofs.Settling.{settled_by_rule}
use Rattle.sharp_bounds.proofs.Changing.{changed_by_rule}

-- ---- from prefix to prefix

as_many_limits : (n : ℕ) (plan : QueryPlan) → length (unseen_bounds n plan) ≡ length (scores_after n plan)
as_many_limits n plan = length-map-range_with_len (λ doc. unseen_bound n plan doc) 0 plan.docs ∙ sym (length-map-range_with_len (λ doc. sum_by (gain_of doc) (take n plan.segments)) 0 plan.docs)

pub rising : (n m : ℕ) (plan : QueryPlan) → n ≤ m → UpTo (scores_after n plan) (scores_after m plan)
rising n m plan more = up_maps (λ doc. sum_by (gain_of doc) (take n plan.segments)) (λ doc. sum_by (gain_of doc) (take m plan.segments)) (range_with_len 0 plan.docs) (λ doc. score_rises plan n m doc more)

reach_is : (n : ℕ) (plan : QueryPlan) → raised (scores_after n plan) (unseen_bounds n plan) ≡ map (λ doc. reach_at n plan doc) (range_with_len 0 plan.docs)
reach_is n plan = raised_map (λ doc. sum_by (gain_of doc) (take n plan.segments)) (λ doc. unseen_bound n plan doc) (range_with_len 0 plan.docs)

pub falling : (n m : ℕ) (plan : QueryPlan) → IsOnce plan → n ≤ m → UpTo (raised (scores_after m plan) (unseen_bounds m plan)) (raised (scores_after n plan) (unseen_bounds n plan))
falling n m plan is more = subst (λ l. UpTo l (raised (scores_after n plan) (unseen_bounds n plan))) (sym (reach_is m plan)) (subst (λ l. UpTo (map (λ doc. reach_at m plan doc) (range_with_len 0 plan.docs)) l) (sym (reach_is n plan))
    (up_maps (λ doc. reach_at m plan doc) (λ doc. reach_at n plan doc) (range_with_len 0 plan.docs) (λ doc. reach_falls plan is n m doc more)))

within_reach : (n m : ℕ) (plan : QueryPlan) → IsOnce plan → n ≤ m → UpTo (scores_after m plan) (raised (scores_after n plan) (unseen_bounds n plan))
within_reach n m plan is more = up_trans (scores_after m plan) (raised (scores_after m plan) (unseen_bounds m plan)) (raised (scores_after n plan) (unseen_bounds n plan)) (up_raised (scores_after m plan) (unseen_bounds m plan)) (falling n m plan is more)

pub later_within : (n m : ℕ) (plan : QueryPlan) → IsOnce plan → n ≤ m → GainsBy (AreGainsWithin (unseen_bounds n plan) (scores_after n plan)) (scores_after n plan) (scores_after m plan)
later_within n m plan is more = between_gains (scores_after n plan) (unseen_bounds n plan) (scores_after m plan) (as_many_limits n plan) (rising n m plan more) (within_reach n m plan is more)

pub sharp_stands : (n m k : ℕ) (plan : QueryPlan) → IsOnce plan → n ≤ m → IsSharpFinal n plan k → first_documents (scores_after m plan) k ≡ first_documents (scores_after n plan) k
sharp_stands n m k plan is more sharp = settled_between (scores_after n plan) (unseen_bounds n plan) (scores_after m plan) k (as_many_limits n plan) sharp (rising n m plan more) (within_reach n m plan is more)

pub sharp_stays : (n m k : ℕ) (plan : QueryPlan) → IsOnce plan → n ≤ m → IsSharpFinal n plan k → IsSharpFinal m plan k
sharp_stays n m k plan is more sharp = settled_narrower (scores_after n plan) (unseen_bounds n plan) (scores_after m plan) (unseen_bounds m plan) k (as_many_limits n plan) (rising n m plan more) (falling n m plan is more) sharp

pub final_is_sharp : (n k : ℕ) (plan : QueryPlan) → IsFinal n plan k → IsSharpFinal n plan k
final_is_sharp n k plan final gains are = final gains (bound_of_within (bound_after n plan) (unseen_bounds n plan) (scores_after n plan) gains (unseen_within n plan) are)

-- ---- the rule

module _ (plan : QueryPlan) (k : ℕ) (weights : AllByRecursion (λ (c : PlanSegment). 1 ≤ c.weight) plan.segments) where
  pub sharp_by_rule : (n : ℕ) → is_sharp n plan k ≡ true → IsSharpFinal n plan k
  sharp_by_rule n rule = settled_by_rule (scores_after n plan) (unseen_bounds n plan) k (bound_after n plan) (are_limits n plan weights) rule

  pub changed_by_one : (n : ℕ) → is_sharp n plan k ≡ false → IsChangedWithin (scores_after n plan) k (unseen_bounds n plan)
  changed_by_one n rule = changed_by_rule (scores_after n plan) (unseen_bounds n plan) k (bound_after n plan) (are_limits n plan weights) rule

  pub not_sharp : (n : ℕ) → is_sharp n plan k ≡ false → ¬ IsSharpFinal n plan k
  not_sharp n rule sharp = let changed = changed_by_one n rule in changed.differ (sharp changed.gains changed.within)

  -- the rule's grade
  pub graded : (n : ℕ) → IsSharpGrade n plan k (sharp_grade n plan k)
  graded n = by (cases_Bool (is_sharp n plan k)) where
    by_bound : (grade : Grade) → ¬ IsSharpFinal n plan k → IsGrade (scores_after n plan) k (bound_after n plan) grade → IsSharpGrade n plan k grade
    by_bound Final none is = absurd (none (final_is_sharp n k plan is))
    by_bound Set none is = (is.0, none)
    by_bound Open none is = (none, is.1)

    by : (is_sharp n plan k ≡ true) ⊎ (is_sharp n plan k ≡ false) → IsSharpGrade n plan k (sharp_grade n plan k)
    by (inl t) = rw t (sharp_by_rule n t)
    by (inr f) = rw f (by_bound (grade_by k (bound_after n plan) (standing_of (scores_after n plan) k)) (not_sharp n f) (graded_standing (scores_after n plan) k (bound_after n plan)))

  -- ---- where to stop

  pub stops : (budget : ℕ) → IsStop budget plan k (stop_at budget plan k)
  stops budget = record {
    within = let a = prefix_len-le-length (λ n. not (is_sharp n plan k)) (range_with_len 0 (prefix_within budget plan.segments)) in let b = length-range_with_len 0 (prefix_within budget plan.segments) in omega arith;
    none_before = λ m less. not_sharp m (ap (λ n. is_sharp n plan k) (sym (place m (below m less))) ∙ fails_before_first (λ n. is_sharp n plan k) (range_with_len 0 (prefix_within budget plan.segments)) m 0 less);
    final = λ less. sharp_by_rule (stop_at budget plan k) (ap (λ n. is_sharp n plan k) (sym (place (stop_at budget plan k) less)) ∙ passes_at_first (λ n. is_sharp n plan k) (range_with_len 0 (prefix_within budget plan.segments)) 0 (let b = length-range_with_len 0 (prefix_within budget plan.segments) in omega arith));
  }
    where
      place : (m : ℕ) → m < prefix_within budget plan.segments → get_or (range_with_len 0 (prefix_within budget plan.segments)) m 0 ≡ m
      place m inside = get_or-range_with_len 0 (prefix_within budget plan.segments) m 0 inside ∙ omega arith

      below : (m : ℕ) → m < stop_at budget plan k → m < prefix_within budget plan.segments
      below m less = let a = prefix_len-le-length (λ n. not (is_sharp n plan k)) (range_with_len 0 (prefix_within budget plan.segments)) in let b = length-range_with_len 0 (prefix_within budget plan.segments) in omega arith

-- ---- one grade, and one place to stop

one_of : (settled kept : Type 0) (first second : Grade) → IsGradeOf settled kept first → IsGradeOf settled kept second → first ≡ second
one_of settled kept Final Final a b = refl
one_of settled kept Final Set a b = absurd (b.1 a)
one_of settled kept Final Open a b = absurd (b.0 a)
one_of settled kept Set Final a b = absurd (a.1 b)
one_of settled kept Set Set a b = refl
one_of settled kept Set Open a b = absurd (b.1 a.0)
one_of settled kept Open Final a b = absurd (a.0 b)
one_of settled kept Open Set a b = absurd (a.1 b.0)
one_of settled kept Open Open a b = refl

pub one_grade : (n k : ℕ) (plan : QueryPlan) (first second : Grade) → IsSharpGrade n plan k first → IsSharpGrade n plan k second → first ≡ second
one_grade n k plan = one_of _ _

pub one_stop : (budget k first second : ℕ) (plan : QueryPlan) → IsStop budget plan k first → IsStop budget plan k second → first ≡ second
one_stop budget k first second plan a b = by (cases_lt first second) (cases_lt second first) where
  by : (first < second) ⊎ (second ≤ first) → (second < first) ⊎ (first ≤ second) → first ≡ second
  by (inl less) other = absurd (b.none_before first less (a.final (let w = b.within in omega arith)))
  by (inr more) (inl less) = absurd (a.none_before second less (b.final (let w = a.within in omega arith)))
  by (inr more) (inr same) = omega arith
