-- Segments of definitions and entries of the same shape have the same sizes, weights and bounds.
use Rattle.shared_lemmas.proofs.Common.{◌≡◌, ℕ, suc, zero, ◌≤◌, List, [], ◌∷◌, length, map, take, drop, true, false, refl, sym, ap, ◌∙◌, arith, inl, inr, ◌⊎◌, ◌==◌, nat_le, sum_by, Some, slice_get, length-map, take-map, sum_by-cons, cases_Bool, take-length}
use Rattle.std.specs.List.{drop-map}
use Rattle.ranking_model.specs.declared.plan_segment.PlanSegment.{PlanSegment}
use Rattle.ranking_model.specs.Plan.{size_of_first, greatest_up_to, prefix_within, weight_at}
use Rattle.ranking_model.specs.Scores.{greatest_weight}
use Rattle.segment_plan.specs.declared.entry.PlanEntry.{PlanEntry}
use Rattle.segment_plan.specs.Entries.{postings_of, entries_within, greatest_at}
use Rattle.segment_plan.specs.Shape.{Shape, shape, entry_shape}

abbrev pub Alike : List PlanSegment → List PlanEntry → Type 0
Alike segments entries = map shape segments ≡ map entry_shape entries

first_alike : (c : PlanSegment) (cs : List PlanSegment) (e : PlanEntry) (es : List PlanEntry) → Alike (c ∷ cs) (e ∷ es) → shape c ≡ entry_shape e
first_alike c cs e es h = cc

rest_alike : (c : PlanSegment) (cs : List PlanSegment) (e : PlanEntry) (es : List PlanEntry) → Alike (c ∷ cs) (e ∷ es) → Alike cs es
rest_alike c cs e es h = cc

pub alike_length : (cs : List PlanSegment) (es : List PlanEntry) → Alike cs es → length cs ≡ length es
alike_length cs es h = sym (length-map cs shape) ∙ ap length h ∙ length-map es entry_shape

pub alike_drop : (n : ℕ) (cs : List PlanSegment) (es : List PlanEntry) → Alike cs es → Alike (drop n cs) (drop n es)
alike_drop n cs es h = sym (drop-map shape n cs) ∙ ap (drop n) h ∙ drop-map entry_shape n es

pub alike_take : (n : ℕ) (cs : List PlanSegment) (es : List PlanEntry) → Alike cs es → Alike (take n cs) (take n es)
alike_take n cs es h = sym (take-map shape n cs) ∙ ap (take n) h ∙ take-map entry_shape n es

pub alike_at : (n : ℕ) (cs : List PlanSegment) (es : List PlanEntry) (c : PlanSegment) (e : PlanEntry) → Alike cs es → slice_get cs n ≡ Some c → slice_get es n ≡ Some e → shape c ≡ entry_shape e
alike_at n [] es c e h a b = cc
alike_at n (x ∷ cs) [] c e h a b = cc
alike_at zero (x ∷ cs) (y ∷ es) c e h a b = let first = first_alike x cs y es h in let is_x : x ≡ c = cc in let is_y : y ≡ e = cc in ap shape (sym is_x) ∙ first ∙ ap entry_shape is_y
alike_at (suc n) (x ∷ cs) (y ∷ es) c e h a b = alike_at n cs es c e (rest_alike x cs y es h) a b

sizes_alike : (cs : List PlanSegment) (es : List PlanEntry) → Alike cs es → sum_by (λ (c : PlanSegment). length c.docs) cs ≡ postings_of es
sizes_alike [] [] h = refl
sizes_alike [] (e ∷ es) h = cc
sizes_alike (c ∷ cs) [] h = cc
sizes_alike (c ∷ cs) (e ∷ es) h =
    let first : length c.docs ≡ e.count = ap (λ (s : Shape). s.size) (first_alike c cs e es h) in
    let rest = sizes_alike cs es (rest_alike c cs e es h) in
    let a = sum_by-cons (λ (c : PlanSegment). length c.docs) c cs in
    let b = sum_by-cons (λ (e : PlanEntry). e.count) e es in
    omega arith

pub alike_size : (n : ℕ) (cs : List PlanSegment) (es : List PlanEntry) → Alike cs es → size_of_first n cs ≡ postings_of (take n es)
alike_size n cs es h = sizes_alike (take n cs) (take n es) (alike_take n cs es h)

pub alike_sizes : (cs : List PlanSegment) (es : List PlanEntry) → Alike cs es → size_of_first (length cs) cs ≡ postings_of es
alike_sizes cs es h = alike_size (length cs) cs es h ∙ ap postings_of (ap (λ n. take n es) (alike_length cs es h) ∙ take-length es)

pub alike_prefix : (budget : ℕ) (cs : List PlanSegment) (es : List PlanEntry) → Alike cs es → prefix_within budget cs ≡ entries_within budget es
alike_prefix budget cs es h = ap (λ m. greatest_up_to m (λ n. nat_le (size_of_first n cs) budget)) (alike_length cs es h)
    ∙ ap (λ (size : ℕ → ℕ). greatest_up_to (length es) (λ n. nat_le (size n) budget)) (λ i n. alike_size n cs es h i)

pub alike_greatest : (term_place : ℕ) (cs : List PlanSegment) (es : List PlanEntry) → Alike cs es → greatest_weight term_place cs ≡ greatest_at term_place es
alike_greatest term_place [] [] h = refl
alike_greatest term_place [] (e ∷ es) h = cc
alike_greatest term_place (c ∷ cs) [] h = cc
alike_greatest term_place (c ∷ cs) (e ∷ es) h = by (cases_Bool (e.term_place == term_place)) (alike_greatest term_place cs es (rest_alike c cs e es h)) where
  same_place : c.term_place ≡ e.term_place
  same_place = ap (λ (s : Shape). s.term_place) (first_alike c cs e es h)

  same_weight : c.weight ≡ e.weight
  same_weight = ap (λ (s : Shape). s.weight) (first_alike c cs e es h)

  by : ((e.term_place == term_place) ≡ true) ⊎ ((e.term_place == term_place) ≡ false) → greatest_weight term_place cs ≡ greatest_at term_place es → greatest_weight term_place (c ∷ cs) ≡ greatest_at term_place (e ∷ es)
  by (inl t) rest = let f : (c.term_place == term_place) ≡ true = ap (λ p. p == term_place) same_place ∙ t in rw (t, f) (rw (same_weight, rest) refl)
  by (inr t) rest = let f : (c.term_place == term_place) ≡ false = ap (λ p. p == term_place) same_place ∙ t in rw (t, f) rest

pub alike_weight : (n : ℕ) (cs : List PlanSegment) (es : List PlanEntry) (e : PlanEntry) → Alike cs es → slice_get es n ≡ Some e → weight_at n cs ≡ e.weight
alike_weight n cs [] e h is = cc
alike_weight n [] (y ∷ es) e h is = cc
alike_weight zero (x ∷ cs) (y ∷ es) e h is = let y_is : y ≡ e = cc in ap (λ (s : Shape). s.weight) (first_alike x cs y es h) ∙ ap (λ (e : PlanEntry). e.weight) y_is
alike_weight (suc n) (x ∷ cs) (y ∷ es) e h is = alike_weight n cs es e (rest_alike x cs y es h) is

pub no_weight : (n : ℕ) (cs : List PlanSegment) → length cs ≤ n → weight_at n cs ≡ 0
no_weight n [] h = refl
no_weight zero (c ∷ cs) h = absurd (omega arith)
no_weight (suc n) (c ∷ cs) h = no_weight n cs (omega arith)
