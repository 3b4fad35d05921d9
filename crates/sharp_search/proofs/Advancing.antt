-- A search that goes on segment by segment.
use Rattle.shared_lemmas.proofs.Common.{◌≡◌, ℕ, zero, suc, ◌+◌, ◌-◌, ◌<◌, ◌≤◌, List, length, map, get_or, set, Bool, true, false, true≢false, cond, refl, sym, ap, subst, ◌∙◌, arith, inl, inr, ◌⊎◌, cases_eq, range_with_len, ext_get_or, get_or-map-range_with_len, length-map-range_with_len, length-map, get_or-map}
use Rattle.jass_base.specs.declared.answer.Grade.{Grade}
use Rattle.jass_base.specs.declared.answer.Grade.TheVariants.{Final}
use Rattle.jass_base.specs.declared.answer.Report.{Report}
use Rattle.jass_base.specs.declared.query_term.QueryTerm.{QueryTerm}
use Rattle.ranking_model.specs.declared.plan.QueryPlan.{QueryPlan}
use Rattle.ranking_model.specs.Report.{report_of}
use Rattle.ranking_model.specs.Scores.{bound_after, scores_after, standing_of}
use Rattle.final_certificate.specs.Rule.{grade_by, report_by}
use Rattle.sharp_bounds.specs.Marks.{AreMarkedTo, next_weights, unseen_sum}
use Rattle.sharp_bounds.specs.Unseen.{unseen_bound, unseen_bounds}
use Rattle.sharp_bounds.specs.Rule.{is_sharp, settles, sharp_grade}
use Rattle.frame_pool.specs.ChainView.{LeavesPool}
use Rattle.frame_pool.specs.Pool.{PoolView}
use Rattle.index_model.specs.Index.{IndexData}
use Rattle.ranking_model.specs.Plan.{size_of_first}
use Rattle.session_engine.specs.Plans.{session_plan}
use Rattle.session_scores.specs.Scores.{AreScoresOf, own_chain}
use Rattle.sharp_search.specs.Fronts.{FrontStands}
use Rattle.sharp_search.specs.declared.front.Front.{Front}
use Rattle.sharp_search.specs.Deciding.{limits_of}
use Rattle.sharp_search.proofs.Entering.{limit_at}

-- what masks and weights tell is what is unseen
pub limits_are : (n : ℕ) (plan : QueryPlan) (masks weights : List ℕ) → AreMarkedTo n plan masks → weights ≡ next_weights n plan
    → ((n doc : ℕ) (plan : QueryPlan) (masks : List ℕ) → AreMarkedTo n plan masks → doc < plan.docs → unseen_sum (get_or masks doc 0) (next_weights n plan) ≡ unseen_bound n plan doc)
    → limits_of masks weights ≡ unseen_bounds n plan
limits_are n plan masks weights marked is tells = ext_get_or 0 (limits_of masks weights) (unseen_bounds n plan) lengths same where
  many : length (limits_of masks weights) ≡ plan.docs
  many = length-map masks (λ mask. unseen_sum mask weights) ∙ marked.each

  lengths : length (limits_of masks weights) ≡ length (unseen_bounds n plan)
  lengths = many ∙ sym (length-map-range_with_len (λ doc. unseen_bound n plan doc) 0 plan.docs)

  same : (doc : ℕ) → doc < length (limits_of masks weights) → get_or (limits_of masks weights) doc 0 ≡ get_or (unseen_bounds n plan) doc 0
  same doc inside =
      let within : doc < plan.docs = omega (arith, inside, many) in
      sym (limit_at masks weights doc (omega (arith, within, marked.each)))
      ∙ ap (unseen_sum (get_or masks doc 0)) is ∙ tells n doc plan masks marked within
      ∙ sym (get_or-map-range_with_len (λ doc. unseen_bound n plan doc) 0 plan.docs doc doc 0 within (omega arith))

-- the decision is the rule's
pub decided : (n k bound : ℕ) (plan : QueryPlan) (masks weights scores : List ℕ) → AreMarkedTo n plan masks → weights ≡ next_weights n plan → scores ≡ scores_after n plan → bound ≡ bound_after n plan
    → ((n doc : ℕ) (plan : QueryPlan) (masks : List ℕ) → AreMarkedTo n plan masks → doc < plan.docs → unseen_sum (get_or masks doc 0) (next_weights n plan) ≡ unseen_bound n plan doc)
    → settles k bound (limits_of masks weights) scores ≡ is_sharp n plan k
decided n k bound plan masks weights scores marked is sums bounds tells =
    let limits = limits_are n plan masks weights marked is tells in
    (λ i. settles k (bounds i) (limits i) (sums i))

-- a report with the grade of a settled answer
pub graded : (n k : ℕ) (plan : QueryPlan) (settled : Bool) (report : Report) → settled ≡ is_sharp n plan k → report ≡ report_by n plan k
    → (cond settled (record report { grade = Final }) report) ≡ report_of n plan (sharp_grade n plan k)
graded n k plan true report is reports = (λ i. record (reports i) { grade = Final }) ∙ ap (λ b. report_of n plan (cond b Final (grade_by k (bound_after n plan) (standing_of (scores_after n plan) k)))) is
graded n k plan false report is reports = reports ∙ ap (λ b. report_of n plan (cond b Final (grade_by k (bound_after n plan) (standing_of (scores_after n plan) k)))) is

-- one settled prefix more that isn't
pub still_open : (n k : ℕ) (plan : QueryPlan) → ((m : ℕ) → m < n → is_sharp m plan k ≡ false) → is_sharp n plan k ≡ false → (m : ℕ) → m < n + 1 → is_sharp m plan k ≡ false
still_open n k plan before here m inside = elim (cases_eq m n) [ inl e ↦ ap (λ i. is_sharp i plan k) e ∙ here | inr apart ↦ before m (omega (arith, inside, apart)) ]

-- ---- the next weights

module _ (n bound rest : ℕ) (plan : QueryPlan) (place : ℕ) (weights : List ℕ) (is : weights ≡ next_weights n plan) (low : bound ≡ bound_after n plan) (high : rest ≡ bound_after (n + 1) plan)
    (falls : bound_after n plan + get_or (next_weights (n + 1) plan) place 0 ≡ bound_after (n + 1) plan + get_or (next_weights n plan) place 0)
    (least : get_or (next_weights (n + 1) plan) place 0 ≤ get_or (next_weights n plan) place 0) where
  here : get_or weights place 0 ≡ get_or (next_weights n plan) place 0
  here = ap (λ (w : List ℕ). get_or w place 0) is

  pub bound_falls : rest ≤ bound
  bound_falls = omega (arith, low, high, falls, least)

  pub weight_falls_by : bound - rest ≤ get_or weights place 0
  weight_falls_by = omega (arith, low, high, falls, least, here)

  pub weight_after : bound_after n plan + (get_or weights place 0 - (bound - rest)) ≡ bound_after (n + 1) plan + get_or (next_weights n plan) place 0
  weight_after = omega (arith, low, high, falls, least, here)

-- they are lowered as the bound is
pub lowered : (n bound rest : ℕ) (plan : QueryPlan) (place : ℕ) (weights new : List ℕ) → weights ≡ next_weights n plan → bound ≡ bound_after n plan → rest ≡ bound_after (n + 1) plan
    → bound_after n plan + get_or (next_weights (n + 1) plan) place 0 ≡ bound_after (n + 1) plan + get_or (next_weights n plan) place 0
    → get_or (next_weights (n + 1) plan) place 0 ≤ get_or (next_weights n plan) place 0
    → new ≡ set weights place (get_or weights place 0 - (bound - rest))
    → ((weight : ℕ) → bound_after n plan + weight ≡ bound_after (n + 1) plan + get_or (next_weights n plan) place 0 → next_weights (n + 1) plan ≡ set (next_weights n plan) place weight)
    → new ≡ next_weights (n + 1) plan
lowered n bound rest plan place weights new is low high falls least made law =
    made ∙ ap (λ (w : List ℕ). set w place (get_or weights place 0 - (bound - rest))) is
    ∙ sym (law (get_or weights place 0 - (bound - rest)) (weight_after n bound rest plan place weights is low high falls least))

-- ---- segment by segment

-- a search that went on, no further than a segment
pub record Advanced (index : IndexData) (terms : List QueryTerm) (k to : ℕ) (first : Front) (old : PoolView) (now : Front) (new : PoolView) (before steps postings : ℕ) : Type 0 where
  pub stands : FrontStands index terms k now new
  pub within : now.scored ≤ to
  pub same : AreScoresOf first.scores now.scores
  pub leaves : LeavesPool old new (own_chain first.scores)
  pub counted : steps ≡ before + postings
  pub paid : size_of_first first.scored (session_plan index terms).segments + postings ≡ size_of_first now.scored (session_plan index terms).segments

pub started : (index : IndexData) (terms : List QueryTerm) (k to : ℕ) (first : Front) (old : PoolView) (steps : ℕ) → FrontStands index terms k first old → first.scored ≤ to → LeavesPool old old (own_chain first.scores)
    → Advanced index terms k to first old first old steps steps 0
started index terms k to first old steps stands within leaves = record {
  stands = stands;
  within = within;
  same = record { chain = refl; docs = refl; k = refl; room = refl };
  leaves = leaves;
  counted = omega arith;
  paid = omega arith;
}

pub further : (index : IndexData) (terms : List QueryTerm) (k to : ℕ) (first : Front) (old : PoolView) (now : Front) (pool : PoolView) (before steps postings : ℕ) (later : Front) (new : PoolView) (after more : ℕ)
    → Advanced index terms k to first old now pool before steps postings → now.scored < to → FrontStands index terms k later new → later.scored ≡ now.scored + 1
    → size_of_first now.scored (session_plan index terms).segments + more ≡ size_of_first later.scored (session_plan index terms).segments → after ≡ steps + more → AreScoresOf now.scores later.scores
    → LeavesPool pool new (own_chain now.scores) → ((a b c : PoolView) (chain : ℕ) → LeavesPool a b chain → LeavesPool b c chain → LeavesPool a c chain)
    → Advanced index terms k to first old later new before after (postings + more)
further index terms k to first old now pool before steps postings later new after more was early stands one paid counted same leaves both = record {
  stands = stands;
  within = omega (arith, early, one);
  same = record { chain = same.chain ∙ was.same.chain; docs = same.docs ∙ was.same.docs; k = same.k ∙ was.same.k; room = same.room ∙ was.same.room };
  leaves = both old pool new (own_chain first.scores) was.leaves (subst (LeavesPool pool new) was.same.chain leaves);
  counted = let c = was.counted in omega (arith, c, counted);
  paid = let p = was.paid in omega (arith, p, paid);
}
