-- Where a query that is searched has stopped, and its texts and steps from one budget on.
use Rattle.shared_lemmas.proofs.Common.{◌≡◌, ℕ, zero, suc, ◌+◌, ◌-◌, ◌<◌, ◌≤◌, Bool, true, false, not, cond, List, [], ◌∷◌, ◌++◌, length, take, drop, map, refl, sym, ap, ◌∙◌, arith, drop_all, take_all, range_with_len, position_or_len, length-map-range_with_len, Option, Some, None, ◌==◌, if◌then◌else◌}
use Rattle.std.proofs.Common.{flat_map}
use Rattle.std.specs.List.{last_or}
use Rattle.std.specs.Option.{unwrap_or}
use Rattle.jass_top.proofs.Below.{Budget, PlanSegment, QueryPlan, granted_sum, prefix_within, size_of_first, report_line, run_lines, tag_of, top_k, QueryData, query_data, run_parts, IndexData, PoolView, IsInUse, chain_view, need_of, session_plan}
use Rattle.index_file.specs.Sources.{IsSearchable}
use Rattle.sharp_bounds.specs.Rule.{is_sharp, stop_at}
use Rattle.session_engine.specs.Standing as sessions
use Rattle.session_engine.specs.declared.session.Session.{Session}
use Rattle.sharp_search.specs.Standing as searches
use Rattle.sharp_search.specs.declared.stopping.SharpSearch.{SharpSearch}
use Rattle.jass_words.specs.declared.until.Until.{Until}
use Rattle.jass_words.specs.declared.until.Until.TheVariants as untils
use Rattle.jass_top.specs.declared.engine.Engine.{Engine}
use Rattle.jass_top.specs.declared.engine.Engine.TheVariants.{Plain, Sharp}
use Rattle.jass_top.specs.SearchMeaning.{scored_in}
use Rattle.jass_top.specs.SearchTexts.{first_part_of, parts_reports, parts_run, plan_for, report_until}
use Rattle.jass_top.specs.Until.{stop_granted, stops_granted}
use Rattle.jass_top.specs.Private.Engines.{EngineStands, chain_of, granted_of, k_of, plan_over, prefix_of, query_of, report_of, until_of}
use Rattle.jass_top.specs.Private.SearchRuns.{answer_text, report_text}
use Rattle.jass_top.proofs.Turns.{Resumes, Sizes, part_granted}

-- ---- where it has stopped, and what it reports

abbrev pub StopsFirst : Type 0
StopsFirst = (s : SharpSearch) (index : IndexData) (pool : PoolView) → IsSearchable index → searches.SharpStands s index pool → searches.prefix_of s ≡ stop_at (searches.granted_of s) (searches.plan_over index s) (searches.k_of s)

pub stopped : StopsFirst → (e : Engine) (index : IndexData) (pool : PoolView) → IsSearchable index → EngineStands e index pool → prefix_of e ≡ stop_granted (until_of e) (k_of e) (granted_of e) (plan_over index e)
stopped first (Plain s) index pool searchable stands = stands.prefix
stopped first (Sharp s) index pool searchable stands = first s index pool searchable stands

pub reported : (e : Engine) (index : IndexData) (pool : PoolView) → EngineStands e index pool → report_of e ≡ report_until (until_of e) (prefix_of e) (plan_over index e) (k_of e)
reported (Plain s) index pool stands = stands.report
reported (Sharp s) index pool stands = stands.report

scored_is : (e : Engine) (index : IndexData) (pool : PoolView) → EngineStands e index pool → (report_of e).postings ≡ size_of_first (prefix_of e) (plan_over index e).segments
scored_is (Plain s) index pool stands = ap (λ r. r.postings) stands.report
scored_is (Sharp s) index pool stands = ap (λ r. r.postings) stands.report

-- ---- its chain

pub has_chain : ((s : Session) (index : IndexData) (pool : PoolView) → sessions.SessionStands s index pool → IsInUse pool (sessions.chain_of s))
    → ((s : SharpSearch) (index : IndexData) (pool : PoolView) → searches.SharpStands s index pool → IsInUse pool (searches.chain_of s))
    → (e : Engine) (index : IndexData) (pool : PoolView) → EngineStands e index pool → IsInUse pool (chain_of e)
has_chain one other (Plain s) index pool stands = one s index pool stands
has_chain one other (Sharp s) index pool stands = other s index pool stands

pub has_promise : ((s : Session) (index : IndexData) (pool : PoolView) → sessions.SessionStands s index pool → (chain_view pool (sessions.chain_of s)).promise ≡ need_of index (sessions.terms_of s))
    → ((s : SharpSearch) (index : IndexData) (pool : PoolView) → searches.SharpStands s index pool → (chain_view pool (searches.chain_of s)).promise ≡ need_of index (searches.terms_of s))
    → (e : Engine) (index : IndexData) (pool : PoolView) → EngineStands e index pool → (chain_view pool (chain_of e)).promise ≡ need_of index (query_of e).terms
has_promise one other (Plain s) index pool stands = one s index pool stands
has_promise one other (Sharp s) index pool stands = other s index pool stands

-- ---- stops, budget by budget

drop_range : {A : Type 0} (f : ℕ → A) (from n j : ℕ) → j < n → drop j (map f (range_with_len from n)) ≡ f (from + j) ∷ drop (suc j) (map f (range_with_len from n))
drop_range f from zero j less = absurd (omega (arith, less))
drop_range f from (suc n) zero less = (let same : from ≡ from + zero = omega arith in ap (λ (at : ℕ). f at ∷ map f (range_with_len (from + 1) n)) same)
drop_range f from (suc n) (suc j) less =
    let same : from + 1 + j ≡ from + suc j = omega arith in
    drop_range f (from + 1) n j (omega (arith, less)) ∙ ap (λ (at : ℕ). f at ∷ drop (suc j) (map f (range_with_len (from + 1) n))) same

module _ (until : Until) (k : ℕ) (budgets : List Budget) (plan : QueryPlan) where
  abbrev stop_after : ℕ → ℕ
  stop_after j = stop_granted until k (granted_sum (take j budgets)) plan

  pub stops_from : (i : ℕ) → i < length budgets → drop i (stops_granted until k budgets plan) ≡ stop_after (i + 1) ∷ drop (i + 1) (stops_granted until k budgets plan)
  stops_from i inside =
      let first : 1 + i ≡ i + 1 = omega arith in
      let next : suc i ≡ i + 1 = omega arith in
      drop_range stop_after 1 (length budgets) i inside ∙ (λ x. stop_after (first x) ∷ drop (next x) (stops_granted until k budgets plan))

  pub as_many_stops : length (stops_granted until k budgets plan) ≡ length budgets
  as_many_stops = length-map-range_with_len stop_after 1 (length budgets)

-- ---- texts, budget by budget

module _ (index : IndexData) (budgets : List Budget) (s t : Engine) (i : ℕ) (inside : i < length budgets) (far : until_of t ≡ until_of s) (same : query_of t ≡ query_of s) (asked : k_of t ≡ k_of s)
    (at : prefix_of t ≡ stop_granted (until_of s) (k_of s) (granted_sum (take (i + 1) budgets)) (plan_over index s)) where
  abbrev stops : List ℕ
  stops = stops_granted (until_of s) (k_of s) budgets (plan_over index s)

  abbrev next : ℕ
  next = stop_granted (until_of s) (k_of s) (granted_sum (take (i + 1) budgets)) (plan_over index s)

  answer_is : (tag : List ℕ) (part : ℕ) → answer_text index t tag part ≡ run_lines index.names (query_of s).id (tag_of tag part) 1 (top_k next (plan_over index s) (k_of s))
  answer_is tag part = λ x. run_lines index.names (same x).id (tag_of tag part) 1 (top_k (at x) (session_plan index (same x).terms) (asked x))

  pub run_turn : (tag : List ℕ) (part : ℕ) → parts_run index (k_of s) tag (query_data (query_of s)) part (drop i stops) ≡ answer_text index t tag part ++ parts_run index (k_of s) tag (query_data (query_of s)) (part + 1) (drop (i + 1) stops)
  unfolding parts_run
  run_turn tag part =
      ap (λ ns. run_parts index.names (query_of s).id tag part (map (λ n. top_k n (plan_over index s) (k_of s)) ns)) (stops_from (until_of s) (k_of s) budgets (plan_over index s) i inside)
      ∙ ap (λ (text : List ℕ). text ++ run_parts index.names (query_of s).id tag (part + 1) (map (λ n. top_k n (plan_over index s) (k_of s)) (drop (i + 1) stops))) (sym (answer_is tag part))

  pub report_turn : report_of t ≡ report_until (until_of t) (prefix_of t) (plan_over index t) (k_of t) → parts_reports index (until_of s) (k_of s) (query_data (query_of s)) (drop i stops)
      ≡ report_text t ++ parts_reports index (until_of s) (k_of s) (query_data (query_of s)) (drop (i + 1) stops)
  unfolding parts_reports
  report_turn told =
      let line : ℕ → List ℕ = λ n. report_line (query_of s).id (report_until (until_of s) n (plan_over index s) (k_of s)) (query_of s).unknown in
      let is : report_text t ≡ line next
      = ap (λ r. report_line (query_of t).id r (query_of t).unknown) told
      ∙ (λ x. report_line (same x).id (report_until (far x) (at x) (session_plan index (same x).terms) (asked x)) (same x).unknown) in
      ap (flat_map line) (stops_from (until_of s) (k_of s) budgets (plan_over index s) i inside)
      ∙ ap (λ (text : List ℕ). text ++ flat_map line (drop (i + 1) stops)) (sym is)

-- ---- the end

pub run_end : (index : IndexData) (until : Until) (k : ℕ) (tag : List ℕ) (budgets : List Budget) (query : QueryData) (part i : ℕ) → length budgets ≤ i → parts_run index k tag query part (drop i (stops_granted until k budgets (plan_for index query))) ≡ []
unfolding parts_run
run_end index until k tag budgets query part i outside =
    ap (λ ns. run_parts index.names query.id tag part (map (λ n. top_k n (plan_for index query) k) ns)) (drop_all i (stops_granted until k budgets (plan_for index query)) (omega (arith, as_many_stops until k budgets (plan_for index query), outside)))

pub report_end : (index : IndexData) (until : Until) (k : ℕ) (budgets : List Budget) (query : QueryData) (i : ℕ) → length budgets ≤ i → parts_reports index until k query (drop i (stops_granted until k budgets (plan_for index query))) ≡ []
unfolding parts_reports
report_end index until k budgets query i outside =
    ap (flat_map (λ n. report_line query.id (report_until until n (plan_for index query) k) query.unknown)) (drop_all i (stops_granted until k budgets (plan_for index query)) (omega (arith, as_many_stops until k budgets (plan_for index query), outside)))

-- ---- more is granted

position_grows : (p : ℕ → Bool) (from n m : ℕ) → n ≤ m → position_or_len p (range_with_len from n) ≤ position_or_len p (range_with_len from m)
position_grows p from zero m le = omega arith
position_grows p from (suc n) zero le = absurd (omega (arith, le))
position_grows p from (suc n) (suc m) le = at (not (p from)) (position_grows p (from + 1) n m (omega (arith, le)))
  where
    at : (b : Bool) → position_or_len p (range_with_len (from + 1) n) ≤ position_or_len p (range_with_len (from + 1) m) → cond b (1 + position_or_len p (range_with_len (from + 1) n)) 0 ≤ cond b (1 + position_or_len p (range_with_len (from + 1) m)) 0
    at true less = omega (arith, less)
    at false less = omega arith

position_within : (p : ℕ → Bool) (from n : ℕ) → position_or_len p (range_with_len from n) ≤ n
position_within p from zero = omega arith
position_within p from (suc n) = at (not (p from)) (position_within p (from + 1) n)
  where
    at : (b : Bool) → position_or_len p (range_with_len (from + 1) n) ≤ n → cond b (1 + position_or_len p (range_with_len (from + 1) n)) 0 ≤ suc n
    at true less = omega (arith, less)
    at false less = omega arith

abbrev pub Fits : Type 0
Fits = (budget : ℕ) (segments : List PlanSegment) → size_of_first (prefix_within budget segments) segments ≤ budget

module _ (resumes : Resumes) (sizes : Sizes) where
  pub prefix_grows : (before budget : ℕ) (segments : List PlanSegment) → before ≤ budget → prefix_within before segments ≤ prefix_within budget segments
  prefix_grows before budget segments less = omega (arith, resumes before budget (prefix_within before segments) segments refl less)

  size_grows : (n m : ℕ) (segments : List PlanSegment) → n ≤ m → size_of_first n segments ≤ size_of_first m segments
  size_grows n m segments le =
      let more : n + (m - n) ≡ m = omega (arith, le) in
      let is : size_of_first m segments ≡ size_of_first n segments + size_of_first (m - n) (drop n segments) = ap (λ (at : ℕ). size_of_first at segments) (sym more) ∙ sizes n (m - n) segments in
      omega (arith, is)

  stop_grows : (until : Until) (k before budget : ℕ) (plan : QueryPlan) → before ≤ budget → stop_granted until k before plan ≤ stop_granted until k budget plan
  stop_grows untils.Budget k before budget plan less = prefix_grows before budget plan.segments less
  stop_grows untils.Final k before budget plan less = position_grows (λ n. is_sharp n plan k) 0 (prefix_within before plan.segments) (prefix_within budget plan.segments) (prefix_grows before budget plan.segments less)

  -- nothing is scored for nothing
  none_granted : Fits → (until : Until) (k granted : ℕ) (plan : QueryPlan) → granted ≡ 0 → size_of_first (stop_granted until k granted plan) plan.segments ≡ 0
  none_granted fits until k granted plan none = at until
    where
      at : (u : Until) → size_of_first (stop_granted u k granted plan) plan.segments ≡ 0
      at untils.Budget = omega (arith, fits granted plan.segments, none)
      at untils.Final =
          let less : stop_granted untils.Final k granted plan ≤ prefix_within granted plan.segments = position_within (λ n. is_sharp n plan k) 0 (prefix_within granted plan.segments) in
          omega (arith, size_grows (stop_granted untils.Final k granted plan) (prefix_within granted plan.segments) plan.segments less, fits granted plan.segments, none)

pub last_in_range : {A : Type 0} (f : ℕ → A) (o : Option A) (from n : ℕ) → last_or o (map f (range_with_len from (suc n))) ≡ Some (f (from + n))
last_in_range f o from zero = (let same : from ≡ from + zero = omega arith in ap (λ (at : ℕ). Some (f at)) same)
last_in_range f o from (suc n) = (let same : from + 1 + n ≡ from + suc n = omega arith in last_in_range f (Some (f from)) (from + 1) n ∙ ap (λ (at : ℕ). Some (f at)) same)

-- what all budgets pay for is scored in the end
pub scored_in_all : Resumes → Sizes → Fits → (until : Until) (k : ℕ) (budgets : List Budget) (plan : QueryPlan) → scored_in (stops_granted until k budgets) plan ≡ size_of_first (stop_granted until k (granted_sum budgets) plan) plan.segments
scored_in_all resumes sizes fits until k [] plan = sym (none_granted resumes sizes fits until k (granted_sum []) plan refl)
scored_in_all resumes sizes fits until k (budget ∷ budgets) plan =
    let all : List Budget = budget ∷ budgets in
    let last : last_or None (stops_granted until k all plan) ≡ Some (stop_granted until k (granted_sum (take (1 + length budgets) all)) plan)
    = last_in_range (λ j. stop_granted until k (granted_sum (take j all)) plan) None 1 (length budgets) in
    let whole : take (1 + length budgets) all ≡ all = take_all (1 + length budgets) all (omega arith) in
    ap (λ (o : Option ℕ). size_of_first (unwrap_or o 0) plan.segments) last
    ∙ ap (λ (granted : List Budget). size_of_first (stop_granted until k (granted_sum granted) plan) plan.segments) whole

-- ---- steps

module _ (resumes : Resumes) (sizes : Sizes) (fits : Fits) (first : StopsFirst) (index : IndexData) (searchable : IsSearchable index) where
  pub scored_none : (e : Engine) (pool : PoolView) → EngineStands e index pool → granted_of e ≡ 0 → (report_of e).postings ≡ 0
  scored_none e pool stands none =
      scored_is e index pool stands ∙ ap (λ (n : ℕ). size_of_first n (plan_over index e).segments) (stopped first e index pool searchable stands) ∙ none_granted resumes sizes fits (until_of e) (k_of e) (granted_of e) (plan_over index e) none

  module _ (s t : Engine) (pool : PoolView) (budgets : List Budget) (j : ℕ) (stands : EngineStands t index pool) (far : until_of t ≡ until_of s) (same : query_of t ≡ query_of s) (asked : k_of t ≡ k_of s) (granted : granted_of t ≡ granted_sum (take j budgets)) where
    abbrev plan_s : QueryPlan
    plan_s = plan_over index s

    pub prefix_is : prefix_of t ≡ stop_granted (until_of s) (k_of s) (granted_sum (take j budgets)) plan_s
    prefix_is = stopped first t index pool searchable stands ∙ (λ x. stop_granted (far x) (asked x) (granted x) (session_plan index (same x).terms))

    postings_are : (report_of t).postings ≡ size_of_first (stop_granted (until_of s) (k_of s) (granted_sum (take j budgets)) plan_s) plan_s.segments
    postings_are = scored_is t index pool stands ∙ (λ x. size_of_first (prefix_is x) (session_plan index (same x).terms).segments)

    pub scored_part : (report_of t).postings ≤ scored_in (stops_granted (until_of s) (k_of s) budgets) plan_s
    scored_part = omega (
      arith,
      postings_are,
      scored_in_all resumes sizes fits (until_of s) (k_of s) budgets plan_s,
      size_grows resumes sizes _ _ plan_s.segments (stop_grows resumes sizes (until_of s) (k_of s) (granted_sum (take j budgets)) (granted_sum budgets) plan_s (part_granted budgets j)),
    )

    pub scored_whole : length budgets ≤ j → (report_of t).postings ≡ scored_in (stops_granted (until_of s) (k_of s) budgets) plan_s
    scored_whole outside =
        postings_are ∙ ap (λ (these : List Budget). size_of_first (stop_granted (until_of s) (k_of s) (granted_sum these) plan_s) plan_s.segments) (take_all j budgets outside) ∙ sym (scored_in_all resumes sizes fits (until_of s) (k_of s) budgets plan_s)

-- ---- the first part

pub first_part_is : (index : IndexData) (until : Until) (k : ℕ) (budgets : List Budget) (query : QueryData) → first_part_of (stops_granted until k budgets (plan_for index query)) ≡ first_part_of budgets
first_part_is index until k budgets query = ap (λ (count : ℕ). if count == 1 then 0 else 1) (as_many_stops until k budgets (plan_for index query))
