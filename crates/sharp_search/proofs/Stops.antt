-- Where a search stops, by all gains.
use Rattle.shared_lemmas.proofs.Common.{◌≡◌, ◌≢◌, ℕ, ◌<◌, ◌≤◌, List, length, true, false, ap, sym, subst, ◌∙◌, arith}
use Rattle.jass_base.specs.declared.answer.Grade.{Grade}
use Rattle.jass_base.specs.declared.answer.Report.{Report}
use Rattle.jass_base.specs.declared.query_term.QueryTerm.{QueryTerm}
use Rattle.ranking_model.specs.declared.plan.QueryPlan.{QueryPlan}
use Rattle.ranking_model.specs.declared.plan_segment.PlanSegment.{PlanSegment}
use Rattle.ranking_model.specs.Plan.{prefix_within, size_of_first}
use Rattle.ranking_model.specs.Scores.{scores_after, top_k}
use Rattle.ranking_model.specs.Report as reports
use Rattle.frame_pool.specs.ChainView.{ChainView, LeavesOthers}
use Rattle.frame_pool.specs.Pool.{PoolView}
use Rattle.session_engine.specs.Plans.{session_plan}
use Rattle.session_scores.specs.Scores as scores
use Rattle.session_scores.specs.declared.scores.Scores.{Scores}
use Rattle.index_model.specs.Index.{IndexData}
use Rattle.sharp_bounds.specs.Rule.{is_sharp, sharp_grade, stop_at}
use Rattle.sharp_bounds.specs.Sharpness.{IsChangedWithin, IsSharpFinal, IsSharpGrade, IsSharpReport, IsStop}
use Rattle.sharp_bounds.specs.Unseen.{unseen_bounds}
use Rattle.sharp_search.specs.Standing.{SharpStands, answer_over, chain_of, granted_of, k_of, plan_over, prefix_of, report_of, terms_of}
use Rattle.sharp_search.specs.declared.stopping.SharpSearch.{SharpSearch}

pub stops : (s : SharpSearch) (index : IndexData) (pool : PoolView) → SharpStands s index pool
    → ((n : ℕ) → is_sharp n (plan_over index s) (k_of s) ≡ true → IsSharpFinal n (plan_over index s) (k_of s))
    → ((n : ℕ) → is_sharp n (plan_over index s) (k_of s) ≡ false → IsChangedWithin (scores_after n (plan_over index s)) (k_of s) (unseen_bounds n (plan_over index s)))
    → IsStop (granted_of s) (plan_over index s) (k_of s) (prefix_of s)
stops s index pool stands sharp changed = record {
  within = stands.within;
  none_before = λ m below final. let other = changed m (stands.front.before m below) in other.differ (final other.gains other.within);
  final = λ less. sharp (prefix_of s) (stands.stopped less);
}

pub reported : (s : SharpSearch) (index : IndexData) (pool : PoolView) → SharpStands s index pool
    → IsSharpGrade (prefix_of s) (plan_over index s) (k_of s) (sharp_grade (prefix_of s) (plan_over index s) (k_of s))
    → IsSharpReport (prefix_of s) (plan_over index s) (k_of s) (report_of s)
reported s index pool stands graded =
    let grade : (report_of s).grade ≡ sharp_grade (prefix_of s) (plan_over index s) (k_of s) = ap (λ (r : Report). r.grade) stands.report in
    record {
      numbers = stands.report ∙ ap (reports.report_of (prefix_of s) (plan_over index s)) (sym grade);
      graded = subst (λ (g : Grade). IsSharpGrade (prefix_of s) (plan_over index s) (k_of s) g) (sym grade) graded;
    }

-- ---- two searches of one query

module _ (s t : SharpSearch) (index : IndexData) (pool other : PoolView) (one : SharpStands s index pool) (two : SharpStands t index other) (terms : terms_of s ≡ terms_of t) (ks : k_of s ≡ k_of t) where
  plans : plan_over index s ≡ plan_over index t
  plans = ap (session_plan index) terms

  module _ (prefix : prefix_of s ≡ prefix_of t) where
    pub same_report : report_of s ≡ report_of t
    same_report = one.report ∙ (λ i. reports.report_of (prefix i) (plans i) (sharp_grade (prefix i) (plans i) (ks i))) ∙ sym two.report

    pub same_answer : answer_over index s ≡ answer_over index t
    same_answer = λ i. top_k (prefix i) (plans i) (ks i)

  pub same_prefix : granted_of s ≡ granted_of t → prefix_of s ≡ stop_at (granted_of s) (plan_over index s) (k_of s) → prefix_of t ≡ stop_at (granted_of t) (plan_over index t) (k_of t) → prefix_of s ≡ prefix_of t
  same_prefix granted first second = first ∙ (λ i. stop_at (granted i) (plans i) (ks i)) ∙ sym second

  -- the earlier one's prefix is where to stop with more grants too, where its answer is sharply final
  pub still_stops : granted_of s ≤ granted_of t → IsStop (granted_of s) (plan_over index s) (k_of s) (prefix_of s) → IsSharpFinal (prefix_of s) (plan_over index s) (k_of s)
      → ((budget : ℕ) (segments : List PlanSegment) → size_of_first (prefix_within budget segments) segments ≤ budget)
      → ((budget : ℕ) (segments : List PlanSegment) → prefix_within budget segments ≤ length segments)
      → ((budget n : ℕ) (segments : List PlanSegment) → n ≤ length segments → size_of_first n segments ≤ budget → n ≤ prefix_within budget segments)
      → IsStop (granted_of t) (plan_over index s) (k_of s) (prefix_of s)
  still_stops more stop final fits there longest =
      let low = stop.within in
      let paid = fits (granted_of s) (plan_over index s).segments in
      let grown = longest (granted_of t) (prefix_within (granted_of s) (plan_over index s).segments) (plan_over index s).segments (there (granted_of s) (plan_over index s).segments) (omega (arith, paid, more)) in
      record { within = omega (arith, low, grown); none_before = stop.none_before; final = λ less. final }

  pub as_first : IsStop (granted_of t) (plan_over index t) (k_of t) (prefix_of t) → IsStop (granted_of t) (plan_over index s) (k_of s) (prefix_of t)
  as_first stop = subst (λ (p : QueryPlan). IsStop (granted_of t) p (k_of s) (prefix_of t)) (sym plans) (subst (λ k. IsStop (granted_of t) (plan_over index t) k (prefix_of t)) (sym ks) stop)

-- ---- calls on other chains

module _
    (stands : (s : Scores) (old new : PoolView) (chain : ℕ) → LeavesOthers old new chain → scores.own_chain s ≢ chain → scores.ScoresStand s old → scores.ScoresStand s new)
    (settled : (s : Scores) (old new : PoolView) (chain : ℕ) → LeavesOthers old new chain → scores.own_chain s ≢ chain → scores.IsSettled s old → scores.IsSettled s new)
    (view : (s : Scores) (old new : PoolView) (chain : ℕ) → LeavesOthers old new chain → scores.own_chain s ≢ chain → scores.own_view s new ≡ scores.own_view s old)
    (same : (s : Scores) (old new : PoolView) (chain : ℕ) → LeavesOthers old new chain → scores.own_chain s ≢ chain → scores.scores_of s new ≡ scores.scores_of s old)
  where
    pub stays : (s : SharpSearch) (index : IndexData) (old new : PoolView) (chain : ℕ) → LeavesOthers old new chain → chain_of s ≢ chain → SharpStands s index old → SharpStands s index new
    stays s index old new chain leaves other is = record {
      planned = is.planned;
      few = is.few;
      some = is.some;
      front = record {
        scored = record {
          stand = stands s.front.scores old new chain leaves other is.front.scored.stand;
          docs = is.front.scored.docs;
          sums = same s.front.scores old new chain leaves other ∙ is.front.scored.sums;
          frames = subst (λ (v : ChainView). length v.frames ≤ size_of_first s.front.scored (plan_over index s).segments) (sym (view s.front.scores old new chain leaves other)) is.front.scored.frames;
          promise = ap (λ (v : ChainView). v.promise) (view s.front.scores old new chain leaves other) ∙ is.front.scored.promise;
        };
        first = settled s.front.scores old new chain leaves other is.front.first;
        asked = is.front.asked;
        marked = is.front.marked;
        frames = is.front.frames;
        weights = is.front.weights;
        settled = is.front.settled;
        before = is.front.before;
      };
      within = is.within;
      stopped = is.stopped;
      report = is.report;
    }
