-- What one segment more adds to the bound.
use Rattle.shared_lemmas.proofs.Common.{◌≡◌, ℕ, suc, zero, length-set, replicate, ◌+◌, ◌-◌, ◌*◌, ◌^◌, ◌<◌, ◌≤◌, ◌≢◌, max, List, [], ◌∷◌, length, get_or, set, drop, true, false, refl, sym, ap, ◌∙◌, arith, inl, inr, ◌⊎◌, ◌==◌, sum_by, eq-eqb, get_or-set_same, get_or-set_other, range_with_len}
use Rattle.shared_lemmas.proofs.Common.{AllByRecursion, drop_all, All-from_recursion, cases_Bool, cases_eq, nat_tests}
use Rattle.std.proofs.Math.Seq.{drop-cons}
use Rattle.segment_plan.specs.declared.entry.PlanEntry.{PlanEntry}
use Rattle.segment_plan.specs.Entries.{PlanView, greatest_at, rest_bound}
use Rattle.segment_plan.specs.Private.Tables.{AreBoundsFrom}
use Rattle.segment_plan.specs.Private.Arranging.{AreLight}
use Rattle.segment_plan.proofs.Ranges.{sums_zero, sums_differ, sum_bounded}
use Rattle.shared_lemmas.proofs.Lists.{all_drop}

at_first : (term_place : ℕ) (e : PlanEntry) (es : List PlanEntry) → e.term_place ≡ term_place → greatest_at term_place (e ∷ es) ≡ max e.weight (greatest_at term_place es)
at_first term_place e es same = let t : (e.term_place == term_place) ≡ true = eq-eqb _ _ same in rw t refl

elsewhere : (term_place : ℕ) (e : PlanEntry) (es : List PlanEntry) → e.term_place ≢ term_place → greatest_at term_place (e ∷ es) ≡ greatest_at term_place es
elsewhere term_place e es apart = let f : (e.term_place == term_place) ≡ false = grind (arith, nat_tests) in rw f refl

greatest_le : (term_place : ℕ) (es : List PlanEntry) → AllByRecursion (λ e. e.weight ≤ 65535 * 255) es → greatest_at term_place es ≤ 16711425
greatest_le term_place [] h = omega arith
greatest_le term_place (e ∷ es) h = by (cases_Bool (e.term_place == term_place)) (greatest_le term_place es h.1) where
  by : ((e.term_place == term_place) ≡ true) ⊎ ((e.term_place == term_place) ≡ false) → greatest_at term_place es ≤ 16711425 → greatest_at term_place (e ∷ es) ≤ 16711425
  by (inl t) rest = let this = h.0 in rw t (omega arith)
  by (inr f) rest = rw f rest

pub bound_fits : (n terms : ℕ) (es : List PlanEntry) → terms ≤ 256 → AreLight terms es → sum_by (λ term_place. greatest_at term_place (drop n es)) (range_with_len 0 terms) < 2 ^ 32
bound_fits n terms es few light = let total = sum_bounded (λ term_place. greatest_at term_place (drop n es)) terms (λ term_place. greatest_le term_place (drop n es) (all_drop _ n es light.weights)) in omega arith

-- what stands while the segments are seen from the last to the first
pub record AreSeen (entries : List PlanEntry) (terms at bound : ℕ) (table best : List ℕ) : Type 0 where
  pub within : at ≤ length entries
  pub room : length best ≡ 256
  pub bounds : AreBoundsFrom at table (record { terms = terms; entries = entries })
  pub greatest : (term_place : ℕ) → term_place < terms → get_or best term_place 0 ≡ greatest_at term_place (drop at entries)
  pub sum : bound ≡ sum_by (λ term_place. greatest_at term_place (drop at entries)) (range_with_len 0 terms)

-- the table of the greatest weights, and the bound, once the segment at a place is seen
module _ (es : List PlanEntry) (at terms bound : ℕ) (d e : PlanEntry) (best : List ℕ) (inside : at < length es) (is : e ≡ get_or es at d) (here : e.term_place < terms) (room : terms ≤ length best)
    (seen : (term_place : ℕ) → term_place < terms → get_or best term_place 0 ≡ greatest_at term_place (drop (at + 1) es))
    (total : bound ≡ sum_by (λ term_place. greatest_at term_place (drop (at + 1) es)) (range_with_len 0 terms)) where
  opened : drop at es ≡ e ∷ drop (at + 1) es
  opened = let one : at + 1 ≡ suc at = omega arith in rw one (drop-cons es at d inside ∙ ap (λ x. x ∷ drop (suc at) es) (sym is))

  abbrev now : ℕ
  now = max (get_or best e.term_place 0) e.weight

  here_now : greatest_at e.term_place (drop at es) ≡ now
  here_now = let was = seen e.term_place here in ap (greatest_at e.term_place) opened ∙ at_first e.term_place e (drop (at + 1) es) refl ∙ omega arith

  pub seen_next : (term_place : ℕ) → term_place < terms → get_or (set best e.term_place now) term_place 0 ≡ greatest_at term_place (drop at es)
  seen_next term_place h = by (cases_eq e.term_place term_place) where
    by : (e.term_place ≡ term_place) ⊎ (e.term_place ≢ term_place) → get_or (set best e.term_place now) term_place 0 ≡ greatest_at term_place (drop at es)
    by (inl same) = ap (λ p. get_or (set best e.term_place now) p 0) (sym same) ∙ get_or-set_same best e.term_place now 0 (omega arith) ∙ sym here_now ∙ ap (λ p. greatest_at p (drop at es)) same
    by (inr apart) = get_or-set_other best e.term_place term_place now 0 (λ i. apart (sym i)) ∙ seen term_place h ∙ sym (ap (greatest_at term_place) opened ∙ elsewhere term_place e (drop (at + 1) es) apart)

  pub total_next : bound + (now - get_or best e.term_place 0) ≡ sum_by (λ term_place. greatest_at term_place (drop at es)) (range_with_len 0 terms)
  total_next =
      let more = sums_differ (λ term_place. greatest_at term_place (drop at es)) (λ term_place. greatest_at term_place (drop (at + 1) es)) terms e.term_place (now - get_or best e.term_place 0) here
      (λ q h apart. ap (greatest_at q) opened ∙ elsewhere q e (drop (at + 1) es) (λ i. apart (sym i))) (let was = seen e.term_place here in let is_now = here_now in omega arith) in
      omega arith

pub bounds_next : (first bound : ℕ) (table : List ℕ) (plan : PlanView) → AreBoundsFrom (first + 1) table plan → first < length plan.entries → bound ≡ rest_bound first plan → AreBoundsFrom first (set table first bound) plan
bounds_next first bound table plan tables inside is = record { one_more = long ∙ tables.one_more; each = λ n a b. by n a b (cases_eq first n) } where
  long : length (set table first bound) ≡ length table
  long = length-set table first bound

  by : (n : ℕ) → first ≤ n → n ≤ length plan.entries → (first ≡ n) ⊎ (first ≢ n) → get_or (set table first bound) n 0 ≡ rest_bound n plan
  by n a b (inl same) = ap (λ m. get_or (set table first bound) m 0) (sym same) ∙ get_or-set_same table first bound 0 (let more = tables.one_more in omega arith) ∙ is ∙ ap (λ m. rest_bound m plan) same
  by n a b (inr apart) = get_or-set_other table first n bound 0 (λ i. apart (sym i)) ∙ tables.each n (omega arith) b

-- behind the last segment nothing is gained
pub seen_start : (entries : List PlanEntry) (terms : ℕ) (table best : List ℕ) → length best ≡ 256 → ((i : ℕ) → get_or best i 0 ≡ 0) → length table ≡ length entries + 1 → get_or table (length entries) 0 ≡ 0 → AreSeen entries terms (length entries) 0 table best
seen_start entries terms table best room zeros long last = record {
  within = omega arith;
  room = room;
  bounds = record { one_more = long; each = λ n a b. let e : n ≡ length entries = omega arith in ap (λ m. get_or table m 0) e ∙ last ∙ sym (none n a) };
  greatest = λ term_place h. zeros term_place ∙ sym (ap (greatest_at term_place) (drop_all (length entries) entries (omega arith)));
  sum = sym (none (length entries) (omega arith));
} where
  none : (n : ℕ) → length entries ≤ n → sum_by (λ term_place. greatest_at term_place (drop n entries)) (range_with_len 0 terms) ≡ 0
  none n h = sums_zero (λ term_place. greatest_at term_place (drop n entries)) terms (λ q. ap (greatest_at q) (drop_all n entries h))

-- one segment more, and that the bound fits its type
pub seen_step : (entries : List PlanEntry) (terms at bound now : ℕ) (table best : List ℕ) (d e : PlanEntry) → terms ≤ 256 → AreLight terms entries → AreSeen entries terms at bound table best → 0 < at → e ≡ get_or entries (at - 1) d → now ≡ max (get_or best e.term_place 0) e.weight
    → AreSeen entries terms (at - 1) (bound + (now - get_or best e.term_place 0)) (set table (at - 1) (bound + (now - get_or best e.term_place 0))) (set best e.term_place now) × (bound + (now - get_or best e.term_place 0) < 2 ^ 32)
seen_step entries terms at bound now table best d e few light seen some is top = (
  record {
    within = let w = seen.within in omega arith;
    room = length-set best e.term_place now ∙ seen.room;
    bounds = bounds_next (at - 1) (bound + (now - get_or best e.term_place 0)) table (record { terms = terms; entries = entries }) (rw (sym before) seen.bounds) inside total;
    greatest = λ term_place h. ap (λ x. get_or (set best e.term_place x) term_place 0) top ∙ seen_next entries (at - 1) terms bound d e best inside is here room greatest sum term_place h;
    sum = total;
  },
  let fits = bound_fits (at - 1) terms entries few light in let is_total = total in omega arith,
) where
  before : at ≡ at - 1 + 1
  before = omega arith

  inside : at - 1 < length entries
  inside = let w = seen.within in omega arith

  here : e.term_place < terms
  here = let h = All-from_recursion (λ (x : PlanEntry). x.term_place < terms) entries light.here (at - 1) d inside in rw (sym is) at h

  room : terms ≤ length best
  room = let r = seen.room in omega arith

  greatest : (term_place : ℕ) → term_place < terms → get_or best term_place 0 ≡ greatest_at term_place (drop (at - 1 + 1) entries)
  greatest term_place h = seen.greatest term_place h ∙ ap (λ n. greatest_at term_place (drop n entries)) before

  sum : bound ≡ sum_by (λ term_place. greatest_at term_place (drop (at - 1 + 1) entries)) (range_with_len 0 terms)
  sum = seen.sum ∙ ap (λ n. sum_by (λ term_place. greatest_at term_place (drop n entries)) (range_with_len 0 terms)) before

  total : bound + (now - get_or best e.term_place 0) ≡ sum_by (λ term_place. greatest_at term_place (drop (at - 1) entries)) (range_with_len 0 terms)
  total = ap (λ x. bound + (x - get_or best e.term_place 0)) top ∙ total_next entries (at - 1) terms bound d e best inside is here room greatest sum

pub zeros_at : (i : ℕ) → get_or (replicate {A = ℕ} 256 0) i 0 ≡ 0
zeros_at i = by 256 i where
  by : (n i : ℕ) → get_or (replicate {A = ℕ} n 0) i 0 ≡ 0
  by zero i = refl
  by (suc n) zero = refl
  by (suc n) (suc i) = by n i
