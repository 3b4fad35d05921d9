-- Whoever k hits keep behind them is kept there: scores rise, and what a document may reach doesn't.
use Rattle.shared_lemmas.proofs.Common.{◌≡◌, ◌≢◌, ℕ, zero, suc, ◌+◌, ◌<◌, ◌≤◌, ◌==◌, List, [], ◌∷◌, length, take, filter, get_or, sum_by, Bool, true, false, true≢false, cond, refl, sym, ap, subst, ◌∙◌, arith, inl, inr, ◌⊎◌, eq-eqb, nat_lt}
use Rattle.shared_lemmas.proofs.Common.{AllByRecursion, is_lt, cases_Bool, nat_tests, sum_by-cons, sum_by-take-le, get_or-map-range_with_len}
use Rattle.jass_base.specs.declared.answer.Hit.{Hit}
use Rattle.ranking_model.specs.declared.plan.QueryPlan.{QueryPlan}
use Rattle.ranking_model.specs.Scores.{rank_cmp, gain_of, scores_after, bound_after, top_k, least_untouched}
use Rattle.ranking_model.specs.declared.plan_segment.PlanSegment.{PlanSegment}
use Rattle.shared_lemmas.proofs.Lists.{all_weaker, all_both}
use Rattle.shared_lemmas.proofs.Members.{In, all_at}
use Rattle.ranking_model.proofs.Documents.{scores_all}
use Rattle.final_certificate.specs.Rule.{gained, ends_safe, unscored}
use Rattle.ranking_model.proofs.Sorting.{Ascends, sum_by-sorted}
use Rattle.final_certificate.proofs.Lists.{sum_by-filter}
use Rattle.final_certificate.proofs.Lifting.{is_scored, is_unscored, documents_from}
use Rattle.final_certificate.proofs.Edges.{Leads, leads_safe, ranked, front, front_scored, StaysBefore}
use Rattle.final_certificate.proofs.Deciding.{of_scores, score_at, first_is, ranked_ascends, front_true, before_unscored}
use Rattle.sharp_bounds.specs.Unseen.{unseen_bound, unseen_bounds}
use Rattle.sharp_bounds.specs.Rule.{AreLimits, do_untouched_stay}
use Rattle.sharp_bounds.specs.Out.{standing, reaching, IsBefore, IsApart, IsOut}
use Rattle.sharp_bounds.proofs.Between.{UpTo}
use Rattle.sharp_bounds.proofs.Reaching.{IsOnce, reach_at, reach_falls, score_rises, are_limits}
use Rattle.sharp_bounds.proofs.Sharp.{rising}

pub leads_before : (a b c : Hit) → Leads a b → IsBefore b c → IsBefore a c
leads_before a b c h k = grind (arith, nat_tests)

pub before_leads : (a b c : Hit) → IsBefore a b → Leads b c → IsBefore a c
before_leads a b c h k = grind (arith, nat_tests)

lower_leads : (doc high low : ℕ) → low ≤ high → Leads (record { doc = doc; score = high }) (record { doc = doc; score = low })
lower_leads doc high low less = grind (arith, nat_tests)

-- ---- how many hits rank before one

abbrev ranks_before : Hit → Hit → ℕ
ranks_before x hit = cond (is_lt (rank_cmp hit x)) 1 0

none_before : (x y : Hit) (ys : List Hit) → is_lt (rank_cmp y x) ≡ false → AllByRecursion (λ z. Leads y z) ys → sum_by (ranks_before x) ys ≡ 0
none_before x y [] after h = refl
none_before x y (z ∷ zs) after h = by (cases_Bool (is_lt (rank_cmp z x))) (sum_by-cons (ranks_before x) z zs) (none_before x y zs after h.1) where
  by : (is_lt (rank_cmp z x) ≡ true) ⊎ (is_lt (rank_cmp z x) ≡ false) → sum_by (ranks_before x) (z ∷ zs) ≡ ranks_before x z + sum_by (ranks_before x) zs → sum_by (ranks_before x) zs ≡ 0 → sum_by (ranks_before x) (z ∷ zs) ≡ 0
  by (inl t) split rest = absurd (true≢false (sym (leads_before y z x h.0 t) ∙ after))
  by (inr f) split rest = split ∙ rw f (omega (arith, rest))

-- where k of a ranking do, the first k do
first_before : (k : ℕ) (x : Hit) (xs : List Hit) → Ascends rank_cmp xs → k ≤ sum_by (ranks_before x) xs → (length (take k xs) ≡ k) × AllByRecursion (λ hit. IsBefore hit x) (take k xs)
first_before zero x xs order many = (refl, tt)
first_before (suc k) x [] order many = absurd (omega arith)
first_before (suc k) x (y ∷ ys) order many = by (cases_Bool (is_lt (rank_cmp y x))) (sum_by-cons (ranks_before x) y ys) (first_before k x ys order.1) where
  by : (is_lt (rank_cmp y x) ≡ true) ⊎ (is_lt (rank_cmp y x) ≡ false) → sum_by (ranks_before x) (y ∷ ys) ≡ ranks_before x y + sum_by (ranks_before x) ys
      → (k ≤ sum_by (ranks_before x) ys → (length (take k ys) ≡ k) × AllByRecursion (λ hit. IsBefore hit x) (take k ys)) → (length (take (suc k) (y ∷ ys)) ≡ suc k) × AllByRecursion (λ hit. IsBefore hit x) (take (suc k) (y ∷ ys))
  by (inl t) split rest =
      let one : ◌≡◌ {A = ℕ} (ranks_before x y) 1 = rw t refl in
      let later = rest (omega (arith, split, one, many)) in
      ((let n = later.0 in omega arith), (t, later.1))
  by (inr f) split rest =
      let none : ◌≡◌ {A = ℕ} (ranks_before x y) 0 = rw f refl in
      absurd (omega (arith, split, none, many, none_before x y ys f order.0))

all_before : (x : Hit) (xs : List Hit) → AllByRecursion (λ hit. IsBefore hit x) xs → sum_by (ranks_before x) xs ≡ length xs
all_before x [] h = refl
all_before x (y ∷ ys) h =
    let one : ◌≡◌ {A = ℕ} (ranks_before x y) 1 = (let t = h.0 in rw t refl) in
    omega (arith, sum_by-cons (ranks_before x) y ys, one, all_before x ys h.1)

-- ---- scores that rise

abbrev scored_before : Hit → Hit → ℕ
scored_before x hit = cond (is_scored hit) (ranks_before x hit) 0

one_rises : (x : Hit) (doc low high : ℕ) → low ≤ high → scored_before x (record { doc = doc; score = low }) ≤ scored_before x (record { doc = doc; score = high })
one_rises x doc low high more = by (cases_Bool (is_scored (record { doc = doc; score = low }))) (cases_Bool (is_lt (rank_cmp (record { doc = doc; score = low }) x))) where
  by : (is_scored (record { doc = doc; score = low }) ≡ true) ⊎ (is_scored (record { doc = doc; score = low }) ≡ false) → (is_lt (rank_cmp (record { doc = doc; score = low }) x) ≡ true) ⊎ (is_lt (rank_cmp (record { doc = doc; score = low }) x) ≡ false)
      → scored_before x (record { doc = doc; score = low }) ≤ scored_before x (record { doc = doc; score = high })
  by (inr f) other = rw f (omega arith)
  by (inl t) (inr f) = rw (t, f) (omega arith)
  by (inl t) (inl before) =
      let scored : is_scored (record { doc = doc; score = high }) ≡ true = grind (arith, nat_tests, t, more) in
      let still : is_lt (rank_cmp (record { doc = doc; score = high }) x) ≡ true = leads_before (record { doc = doc; score = high }) (record { doc = doc; score = low }) x (lower_leads doc high low more) before in
      rw (t, before, scored, still) (omega arith)

all_rise : (x : Hit) (doc : ℕ) (low high : List ℕ) → UpTo low high → sum_by (scored_before x) (documents_from doc low) ≤ sum_by (scored_before x) (documents_from doc high)
all_rise x doc [] [] h = omega arith
all_rise x doc [] (b ∷ high) h = absurd h
all_rise x doc (a ∷ low) [] h = absurd h
all_rise x doc (a ∷ low) (b ∷ high) h = omega (
  arith,
  sum_by-cons (scored_before x) (record { doc = doc; score = a }) (documents_from (doc + 1) low),
  sum_by-cons (scored_before x) (record { doc = doc; score = b }) (documents_from (doc + 1) high),
  one_rises x doc a b h.0,
  all_rise x (doc + 1) low high h.1,
)

counted : (x : Hit) (all : List Hit) → sum_by (ranks_before x) (ranked all) ≡ sum_by (scored_before x) all
counted x all = sum_by-sorted rank_cmp (ranks_before x) (filter is_scored all) ∙ sum_by-filter is_scored (ranks_before x) all

-- the first k of higher scores rank before all that the first k rank before
kept_behind : (low high : List ℕ) (k : ℕ) (x : Hit) → UpTo low high → length (front (of_scores low) k) ≡ k → AllByRecursion (λ hit. IsBefore hit x) (front (of_scores low) k)
    → (length (front (of_scores high) k) ≡ k) × AllByRecursion (λ hit. IsBefore hit x) (front (of_scores high) k)
kept_behind low high k x up full before = first_before k x (ranked (of_scores high)) (ranked_ascends high) (omega (
  arith,
  full,
  all_before x (front (of_scores low) k) before,
  sum_by-take-le (ranks_before x) (ranked (of_scores low)) k,
  counted x (of_scores low),
  counted x (of_scores high),
  all_rise x 0 low high up,
))

-- ---- of a plan

reach_is : (n doc : ℕ) (plan : QueryPlan) → doc < plan.docs → get_or (scores_after n plan) doc 0 + get_or (unseen_bounds n plan) doc 0 ≡ reach_at n plan doc
reach_is n doc plan inside = omega (
  arith,
  get_or-map-range_with_len (λ doc. sum_by (gain_of doc) (take n plan.segments)) 0 plan.docs doc doc 0 inside (omega arith),
  get_or-map-range_with_len (λ doc. unseen_bound n plan doc) 0 plan.docs doc doc 0 inside (omega arith),
)

reaching_leads : (n m doc : ℕ) (plan : QueryPlan) → IsOnce plan → n ≤ m → doc < plan.docs → Leads (reaching n plan doc) (reaching m plan doc)
reaching_leads n m doc plan is more inside = lower_leads doc (get_or (scores_after n plan) doc 0 + get_or (unseen_bounds n plan) doc 0) (get_or (scores_after m plan) doc 0 + get_or (unseen_bounds m plan) doc 0)
    (omega (arith, reach_is n doc plan inside, reach_is m doc plan inside, reach_falls plan is n m doc more))

pub out_later : (n m k doc : ℕ) (plan : QueryPlan) → IsOnce plan → n ≤ m → doc < plan.docs → IsOut n plan k doc → IsOut m plan k doc
out_later n m k doc plan is more inside out = record {
  full = subst (λ (l : List Hit). length l ≡ k) (sym (first_is (scores_after m plan) k)) later.0;
  behind = subst (λ (l : List Hit). AllByRecursion (λ hit. IsBefore hit (reaching m plan doc)) l) (sym (first_is (scores_after m plan) k))
      (all_weaker (λ hit. IsBefore hit (reaching n plan doc)) (λ hit. IsBefore hit (reaching m plan doc)) (λ hit before. before_leads hit (reaching n plan doc) (reaching m plan doc) before (reaching_leads n m doc plan is more inside))
      (front (of_scores (scores_after m plan)) k) later.1);
}
  where
    later : (length (front (of_scores (scores_after m plan)) k) ≡ k) × AllByRecursion (λ hit. IsBefore hit (reaching n plan doc)) (front (of_scores (scores_after m plan)) k)
    later = kept_behind (scores_after n plan) (scores_after m plan) k (reaching n plan doc) (rising n m plan more) (subst (λ (l : List Hit). length l ≡ k) (first_is (scores_after n plan) k) out.full)
        (subst (λ (l : List Hit). AllByRecursion (λ hit. IsBefore hit (reaching n plan doc)) l) (first_is (scores_after n plan) k) out.behind)

pub apart_later : (n m ahead behind : ℕ) (plan : QueryPlan) → IsOnce plan → n ≤ m → ahead < plan.docs → behind < plan.docs → IsApart n plan ahead behind → IsApart m plan ahead behind
apart_later n m ahead behind plan is more first second apart =
    before_leads (standing m plan ahead) (reaching n plan behind) (reaching m plan behind)
    (leads_before (standing m plan ahead) (standing n plan ahead) (reaching n plan behind) (lower_leads ahead (get_or (scores_after m plan) ahead 0) (get_or (scores_after n plan) ahead 0) higher) apart)
    (reaching_leads n m behind plan is more second)
  where
    higher : get_or (scores_after n plan) ahead 0 ≤ get_or (scores_after m plan) ahead 0
    higher = omega (
      arith,
      get_or-map-range_with_len (λ doc. sum_by (gain_of doc) (take n plan.segments)) 0 plan.docs ahead ahead 0 first (omega arith),
      get_or-map-range_with_len (λ doc. sum_by (gain_of doc) (take m plan.segments)) 0 plan.docs ahead ahead 0 first (omega arith),
      score_rises plan n m ahead more,
    )

-- ---- who is out

pub unscored_in : (from i : ℕ) (scores : List ℕ) → i < length scores → get_or scores i 0 ≡ 0 → In (record { doc = from + i; score = 0 }) (filter is_unscored (documents_from from scores))
unscored_in from i [] inside none = absurd (omega arith)
unscored_in from zero (s ∷ scores) inside none =
    let t : (s == 0) ≡ true = eq-eqb s 0 none in
    let d : from + 0 ≡ from = omega arith in
    rw t (inl (λ i. record { doc = d i; score = sym none i }))
unscored_in from (suc i) (s ∷ scores) inside none = step (s == 0) (subst (λ d. In (record { doc = d; score = 0 }) (filter is_unscored (documents_from (from + 1) scores))) (omega arith) (unscored_in (from + 1) i scores (omega arith) none)) where
  step : (b : Bool) → In (record { doc = from + suc i; score = 0 }) (filter is_unscored (documents_from (from + 1) scores)) → In (record { doc = from + suc i; score = 0 }) (cond b (record { doc = from; score = s } ∷ filter is_unscored (documents_from (from + 1) scores)) (filter is_unscored (documents_from (from + 1) scores)))
  step true rest = inr rest
  step false rest = rest

-- the reach of a document that is a hit doesn't come behind it
not_behind : (a : Hit) (doc score gain : ℕ) → a.doc ≡ doc → a.score ≡ score → IsBefore a (record { doc = doc; score = score + gain }) → ⊥
not_behind a doc score gain d s before = grind (arith, nat_tests)

pub no_hit : (n k doc : ℕ) (plan : QueryPlan) → IsOut n plan k doc → AllByRecursion (λ (hit : Hit). hit.doc ≢ doc) (top_k n plan k)
no_hit n k doc plan out = all_weaker (λ (hit : Hit). (hit.score ≡ score_at (scores_after n plan) hit.doc) × IsBefore hit (reaching n plan doc)) (λ (hit : Hit). hit.doc ≢ doc)
    (λ hit h e. not_behind hit doc (get_or (scores_after n plan) doc 0) (get_or (unseen_bounds n plan) doc 0) e (h.0 ∙ ap (score_at (scores_after n plan)) e) h.1) (top_k n plan k)
    (all_both (λ (hit : Hit). hit.score ≡ score_at (scores_after n plan) hit.doc) (λ hit. IsBefore hit (reaching n plan doc)) (top_k n plan k)
    (subst (λ (l : List Hit). AllByRecursion (λ (hit : Hit). hit.score ≡ score_at (scores_after n plan) hit.doc) l) (sym (first_is (scores_after n plan) k)) (front_true (scores_after n plan) k)) out.behind)

-- an untouched document has the bound to gain, and the least of them leads the others
pub untouched_out : (n k doc : ℕ) (plan : QueryPlan) → AllByRecursion (λ (c : PlanSegment). 1 ≤ c.weight) plan.segments → doc < plan.docs → length (top_k n plan k) ≡ k
    → do_untouched_stay k (bound_after n plan) (top_k n plan k) (least_untouched (scores_after n plan)) ≡ true → get_or (scores_after n plan) doc 0 ≡ 0 → IsOut n plan k doc
untouched_out n k doc plan weights inside full stay none = record {
  full = full;
  behind = subst (λ (l : List Hit). AllByRecursion (λ hit. IsBefore hit (reaching n plan doc)) l) (sym (first_is (scores_after n plan) k)) before;
}
  where
    many : nat_lt (length (top_k n plan k)) k ≡ false
    many = grind (arith, nat_tests, full)

    safe : ends_safe (bound_after n plan) (top_k n plan k) (unscored (least_untouched (scores_after n plan))) ≡ true
    safe = rw many at stay

    limits : AreLimits (bound_after n plan) (scores_after n plan) (unseen_bounds n plan)
    limits = are_limits n plan weights

    docs_many : length (scores_after n plan) ≡ plan.docs
    docs_many = scores_all n plan

    stays : StaysBefore (bound_after n plan) (front (of_scores (scores_after n plan)) k) (filter is_unscored (of_scores (scores_after n plan)))
    stays = before_unscored (scores_after n plan) k (bound_after n plan) (least_untouched (scores_after n plan)) refl (subst (λ (l : List Hit). ends_safe (bound_after n plan) l (unscored (least_untouched (scores_after n plan))) ≡ true) (first_is (scores_after n plan) k) safe)

    here : In (record { doc = doc; score = 0 }) (filter is_unscored (of_scores (scores_after n plan)))
    here = subst (λ d. In (record { doc = d; score = 0 }) (filter is_unscored (of_scores (scores_after n plan)))) (omega arith) (unscored_in 0 doc (scores_after n plan) (omega (arith, inside, docs_many)) none)

    own : AllByRecursion (λ (a : Hit). (a.score ≡ score_at (scores_after n plan) a.doc) × (is_scored a ≡ true)) (front (of_scores (scores_after n plan)) k)
    own = all_both (λ (a : Hit). a.score ≡ score_at (scores_after n plan) a.doc) (λ a. is_scored a ≡ true) (front (of_scores (scores_after n plan)) k) (front_true (scores_after n plan) k) (front_scored (of_scores (scores_after n plan)) k)

    reach : get_or (scores_after n plan) doc 0 + get_or (unseen_bounds n plan) doc 0 ≡ 0 + bound_after n plan
    reach = omega (arith, none, limits.untouched doc (omega (arith, inside, docs_many)) none)

    apart : (a : Hit) → a.score ≡ score_at (scores_after n plan) a.doc → is_scored a ≡ true → a.doc ≢ doc
    apart a is scored e = let zero_there : a.score ≡ 0 = is ∙ ap (score_at (scores_after n plan)) e ∙ none in grind (arith, nat_tests, scored, zero_there)

    before : AllByRecursion (λ hit. IsBefore hit (reaching n plan doc)) (front (of_scores (scores_after n plan)) k)
    before = all_weaker (λ (a : Hit). AllByRecursion (λ b. Leads a (gained (bound_after n plan) b)) (filter is_unscored (of_scores (scores_after n plan))) × ((a.score ≡ score_at (scores_after n plan) a.doc) × (is_scored a ≡ true))) (λ hit. IsBefore hit (reaching n plan doc))
        (λ a h. subst (λ s. IsBefore a (record { doc = doc; score = s })) (sym reach) (leads_safe (bound_after n plan) a (record { doc = doc; score = 0 }) (apart a h.1.0 h.1.1)
        (all_at (λ b. Leads a (gained (bound_after n plan) b)) (filter is_unscored (of_scores (scores_after n plan))) (record { doc = doc; score = 0 }) h.0 here)))
        (front (of_scores (scores_after n plan)) k)
        (all_both (λ a. AllByRecursion (λ b. Leads a (gained (bound_after n plan) b)) (filter is_unscored (of_scores (scores_after n plan)))) (λ (a : Hit). (a.score ≡ score_at (scores_after n plan) a.doc) × (is_scored a ≡ true)) (front (of_scores (scores_after n plan)) k) stays own)
