-- The greatest weights of a plan's terms, entry by entry from the last on.
use Rattle.shared_lemmas.proofs.Common.{◌≡◌, ◌≢◌, ℕ, zero, suc, ◌+◌, ◌-◌, ◌<◌, ◌≤◌, ◌==◌, max, List, [], ◌∷◌, length, map, drop, filter, get_or, set, replicate, Bool, true, false, cond, refl, sym, ap, subst, ◌∙◌, arith, inl, inr, ◌⊎◌, Some, slice_get, All, slice_get_within, get_or_from_slice_get, All-get_or}
use Rattle.shared_lemmas.proofs.Common.{range_with_len, cases_eq, eq-eqb, ne_eqb, drop-cons, drop-length, ext_get_or, fun_ext, get_or-map-range_with_len, length-map-range_with_len, length-range_with_len, length-set, get_or-set_same, get_or-set_other}
use Rattle.ranking_model.specs.declared.plan.QueryPlan.{QueryPlan}
use Rattle.ranking_model.specs.Scores.{greatest_weight}
use Rattle.segment_plan.specs.declared.entry.PlanEntry.{PlanEntry}
use Rattle.segment_plan.specs.Entries.{PlanView, greatest_at}
use Rattle.segment_plan.specs.Shape.{HasShape}
use Rattle.segment_plan.proofs.Alike.{alike_greatest}
use Rattle.sharp_bounds.specs.Marks.{next_weights}

-- the greatest weight of each of so many terms
abbrev pub greatest_of : ℕ → List PlanEntry → List ℕ
greatest_of terms entries = map (λ term_place. greatest_at term_place entries) (range_with_len 0 terms)

zeros : (xs : List ℕ) → map {B = ℕ} (λ (x : ℕ). 0) xs ≡ replicate (length xs) 0
zeros [] = refl
zeros (x ∷ xs) = ap (λ (l : List ℕ). 0 ∷ l) (zeros xs)

pub none_yet : (terms from : ℕ) (entries : List PlanEntry) → from ≡ length entries → replicate terms 0 ≡ greatest_of terms (drop from entries)
none_yet terms from entries is =
    ap (λ n. replicate n 0) (sym (length-range_with_len 0 terms)) ∙ sym (zeros (range_with_len 0 terms))
    ∙ ap (greatest_of terms) (sym (ap (λ n. drop n entries) is ∙ drop-length entries))

at_place : (t : ℕ) (e : PlanEntry) (es : List PlanEntry) → e.term_place ≡ t → greatest_at t (e ∷ es) ≡ max e.weight (greatest_at t es)
at_place t e es is = let b : (e.term_place == t) ≡ true = eq-eqb e.term_place t is in rw b refl

elsewhere : (t : ℕ) (e : PlanEntry) (es : List PlanEntry) → e.term_place ≢ t → greatest_at t (e ∷ es) ≡ greatest_at t es
elsewhere t e es apart = let b : (e.term_place == t) ≡ false = ne_eqb e.term_place t apart in rw b refl

pub one_raised : (terms : ℕ) (e : PlanEntry) (es : List PlanEntry) → e.term_place < terms → set (greatest_of terms es) e.term_place (max e.weight (get_or (greatest_of terms es) e.term_place 0)) ≡ greatest_of terms (e ∷ es)
one_raised terms e es inside = ext_get_or 0 (set (greatest_of terms es) e.term_place value) (greatest_of terms (e ∷ es)) lengths same where
  value : ℕ
  value = max e.weight (get_or (greatest_of terms es) e.term_place 0)

  many : (xs : List PlanEntry) → length (greatest_of terms xs) ≡ terms
  many xs = length-map-range_with_len (λ t. greatest_at t xs) 0 terms

  read : (xs : List PlanEntry) (t : ℕ) → t < terms → get_or (greatest_of terms xs) t 0 ≡ greatest_at t xs
  read xs t below = get_or-map-range_with_len (λ t. greatest_at t xs) 0 terms t t 0 below (omega arith)

  lengths : length (set (greatest_of terms es) e.term_place value) ≡ length (greatest_of terms (e ∷ es))
  lengths = length-set (greatest_of terms es) e.term_place value ∙ many es ∙ sym (many (e ∷ es))

  same : (t : ℕ) → t < length (set (greatest_of terms es) e.term_place value) → get_or (set (greatest_of terms es) e.term_place value) t 0 ≡ get_or (greatest_of terms (e ∷ es)) t 0
  same t below = by (cases_eq t e.term_place) where
    within : t < terms
    within = omega (arith, below, length-set (greatest_of terms es) e.term_place value, many es)

    by : (t ≡ e.term_place) ⊎ (t ≡ e.term_place → ⊥) → get_or (set (greatest_of terms es) e.term_place value) t 0 ≡ get_or (greatest_of terms (e ∷ es)) t 0
    by (inl is) = ap (λ i. get_or (set (greatest_of terms es) e.term_place value) i 0) is ∙ get_or-set_same (greatest_of terms es) e.term_place value 0 (omega (arith, inside, many es))
        ∙ ap (max e.weight) (read es e.term_place inside) ∙ sym (at_place e.term_place e es refl) ∙ ap (λ i. greatest_at i (e ∷ es)) (sym is) ∙ sym (read (e ∷ es) t within)
    by (inr apart) = get_or-set_other (greatest_of terms es) e.term_place t value 0 apart ∙ read es t within ∙ sym (elsewhere t e es (λ q. apart (sym q))) ∙ sym (read (e ∷ es) t within)

-- one entry more from the front
pub raised_at : (terms from at : ℕ) (e : PlanEntry) (entries : List PlanEntry) (weights new : List ℕ) → from ≡ at + 1 → slice_get entries at ≡ Some e → e.term_place < terms
    → weights ≡ greatest_of terms (drop from entries) → new ≡ set weights e.term_place (max e.weight (get_or weights e.term_place 0)) → new ≡ greatest_of terms (drop at entries)
raised_at terms from at e entries weights new next is inside was made =
    made ∙ ap (λ (w : List ℕ). set w e.term_place (max e.weight (get_or w e.term_place 0))) was
    ∙ one_raised terms e (drop from entries) inside
    ∙ ap (greatest_of terms) (ap (λ m. e ∷ drop m entries) (let n : from ≡ suc at = omega (arith, next) in n)
    ∙ ap (λ (x : PlanEntry). x ∷ drop (suc at) entries) (sym (get_or_from_slice_get entries at e e is)) ∙ sym (drop-cons entries at e (slice_get_within entries at e is)))

-- those of a plan of definitions
pub as_defined : (view : PlanView) (plan : QueryPlan) (terms : ℕ) → HasShape view plan → plan.terms ≡ terms → greatest_of terms view.entries ≡ next_weights 0 plan
as_defined view plan terms has is =
    ap (λ (f : ℕ → ℕ). map f (range_with_len 0 terms)) (fun_ext (λ t. sym (alike_greatest t plan.segments view.entries has.segments)))
    ∙ ap (λ n. map (λ t. greatest_weight t plan.segments) (range_with_len 0 n)) (sym is)
