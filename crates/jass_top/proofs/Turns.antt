-- Budgets that are granted one after the other, and the steps that they pay for.
use Rattle.shared_lemmas.proofs.Common.{◌≡◌, ℕ, ◌+◌, ◌-◌, ◌<◌, ◌≤◌, List, [], ◌∷◌, length, take, drop, refl, sym, ap, ◌∙◌, get_or, Bool, true, false, ◌==◌, if◌then◌else◌, arith, take_more, sum_by-append}
use Rattle.std.proofs.Common.{take-append-drop}
use Rattle.std.specs.List.{sum_by}
use Rattle.jass_top.proofs.Below.{Budget, PlanSegment, QueryPlan, amount_of, granted_sum, granted_with, prefix_within, size_of_first, prefix_granted, prefixes_granted, IndexData, PoolView, session_plan}
use Rattle.jass_top.proofs.Below.{SessionStands, granted_of, prefix_of, query_of, report_of, terms_of, Session}
use Rattle.jass_top.specs.SearchTexts.{first_part_of}

-- ---- steps

abbrev pub Resumes : Type 0
Resumes = (before budget n : ℕ) (segments : List PlanSegment) → n ≡ prefix_within before segments → before ≤ budget → prefix_within budget segments ≡ n + prefix_within (budget - size_of_first n segments) (drop n segments)

abbrev pub Sizes : Type 0
Sizes = (n more : ℕ) (segments : List PlanSegment) → size_of_first (n + more) segments ≡ size_of_first n segments + size_of_first more (drop n segments)

pub part_granted : (budgets : List Budget) (j : ℕ) → granted_sum (take j budgets) ≤ granted_sum budgets
part_granted budgets j =
    let whole : sum_by amount_of budgets ≡ sum_by amount_of (take j budgets) + sum_by amount_of (drop j budgets) = ap (sum_by amount_of) (sym (take-append-drop j budgets)) ∙ sum_by-append amount_of (take j budgets) (drop j budgets) in
    omega (arith, whole)

pub part_scored : Resumes → Sizes → (before budget : ℕ) (segments : List PlanSegment) → before ≤ budget → size_of_first (prefix_within before segments) segments ≤ size_of_first (prefix_within budget segments) segments
part_scored resumes sizes before budget segments less =
    let n : ℕ = prefix_within before segments in
    let more : ℕ = prefix_within (budget - size_of_first n segments) (drop n segments) in
    let is : size_of_first (prefix_within budget segments) segments ≡ size_of_first n segments + size_of_first more (drop n segments) = ap (λ m. size_of_first m segments) (resumes before budget n segments refl less) ∙ sizes n more segments in
    omega (arith, is)

-- ---- one budget more

sum_more : (budgets : List Budget) (i : ℕ) (d : Budget) → i < length budgets → sum_by amount_of (take (i + 1) budgets) ≡ sum_by amount_of (take i budgets) + amount_of (get_or budgets i d)
sum_more budgets i d inside = ap (sum_by amount_of) (take_more budgets i d inside) ∙ sum_by-append amount_of (take i budgets) (get_or budgets i d ∷ []) ∙ ap (λ n. sum_by amount_of (take i budgets) + n) (omega arith)

pub granted_more : (budgets : List Budget) (i : ℕ) (d : Budget) → i < length budgets → granted_with (granted_sum (take i budgets)) (get_or budgets i d) ≡ granted_sum (take (i + 1) budgets)
granted_more budgets i d inside = omega (arith, sum_more budgets i d inside)

pub prefix_is : (index : IndexData) (s t : Session) (pool : PoolView) (budgets : List Budget) (j : ℕ) → SessionStands t index pool → query_of t ≡ query_of s → granted_of t ≡ granted_sum (take j budgets)
    → prefix_of t ≡ prefix_granted j budgets (session_plan index (terms_of s))
prefix_is index s t pool budgets j stands same granted = stands.prefix ∙ (λ x. prefix_within (granted x) (session_plan index (same x).terms).segments)

pub scored_none : ((budget : ℕ) (segments : List PlanSegment) → size_of_first (prefix_within budget segments) segments ≤ budget) → (index : IndexData) (s : Session) (pool : PoolView) → SessionStands s index pool → granted_of s ≡ 0 → (report_of s).postings ≡ 0
scored_none fits index s pool stands none =
    let segments : List PlanSegment = (session_plan index (terms_of s)).segments in
    let is : (report_of s).postings ≡ size_of_first (prefix_within (granted_of s) segments) segments = ap (λ r. r.postings) stands.report ∙ ap (λ n. size_of_first n segments) stands.prefix in
    omega (arith, is, fits (granted_of s) segments, none)

-- ---- the first part, and the end

pub first_small : (budgets : List Budget) → first_part_of budgets ≤ 1
first_small budgets = at (length budgets == 1)
  where
    at : (b : Bool) → (if b then 0 else 1) ≤ 1
    at true = omega arith
    at false = omega arith

abbrev pub ForEach : Type 0
ForEach = (budgets : List Budget) (plan : QueryPlan) → length (prefixes_granted budgets plan) ≡ length budgets
