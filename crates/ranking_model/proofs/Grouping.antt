-- What holds of postings, of the segments that they are grouped into, and of these in the plan's order.
use Rattle.shared_lemmas.proofs.Common.{◌≡◌, ℕ, suc, ◌+◌, ◌≤◌, List, [], ◌∷◌, ◌++◌, length, true, false, refl, sym, ◌∙◌, arith, zero-add, inl, inr, ◌⊎◌, fold, sum_by, AllByRecursion, sum_by-cons, cases_Bool}
use Rattle.ranking_model.specs.declared.plan_segment.PlanSegment.{PlanSegment}
use Rattle.ranking_model.specs.declared.posting.WeightedPosting.{WeightedPosting}
use Rattle.ranking_model.specs.Plan.{plan_cmp, is_of, begun, joined, plan_segments}
use Rattle.ranking_model.proofs.Sorting.{sum_by-sorted, all_sorted}

-- a segment with one document more
abbrev pub more : PlanSegment → ℕ → PlanSegment
more c doc = record c { docs = c.docs ++ doc ∷ [] }

pub length_sum : {A : Type 0} (xs : List A) → sum_by (λ x. 1) xs ≡ length xs
length_sum [] = refl
length_sum (x ∷ xs) = sum_by-cons (λ x. 1) x xs ∙ let rest = length_sum xs in omega arith

-- a number that each posting adds to its segment, summed over the segments and over the postings
module _ (f : PlanSegment → ℕ) (g : WeightedPosting → ℕ) (first : (p : WeightedPosting) → f (begun p) ≡ g p) (next : (c : PlanSegment) (p : WeightedPosting) → is_of c p ≡ true → f (more c p.doc) ≡ f c + g p) where
  joined_sum : (cs : List PlanSegment) (p : WeightedPosting) → sum_by f (joined cs p) ≡ sum_by f cs + g p
  joined_sum [] p = sum_by-cons f (begun p) [] ∙ let e = first p in omega arith
  joined_sum (c ∷ cs) p = by (cases_Bool (is_of c p)) (joined_sum cs p) where
    by : (is_of c p ≡ true) ⊎ (is_of c p ≡ false) → sum_by f (joined cs p) ≡ sum_by f cs + g p → sum_by f (joined (c ∷ cs) p) ≡ sum_by f (c ∷ cs) + g p
    by (inl t) rest = rw t (sum_by-cons f (more c p.doc) cs ∙ let e = next c p t in let s = sum_by-cons f c cs in omega arith)
    by (inr e) rest = rw e (sum_by-cons f c (joined cs p) ∙ let s = sum_by-cons f c cs in omega arith)

  grouped_sum : (cs : List PlanSegment) (ps : List WeightedPosting) → sum_by f (fold joined cs ps) ≡ sum_by f cs + sum_by g ps
  grouped_sum cs [] = omega arith
  grouped_sum cs (p ∷ ps) = grouped_sum (joined cs p) ps ∙ let one = joined_sum cs p in let s = sum_by-cons g p ps in omega arith

  pub segments_sum : (ps : List WeightedPosting) → sum_by f (plan_segments ps) ≡ sum_by g ps
  segments_sum ps = sum_by-sorted plan_cmp f (fold joined [] ps) ∙ grouped_sum [] ps ∙ zero-add (sum_by g ps)

-- a fact that each posting gives its segment
module _ (P : PlanSegment → Type 0) (Q : WeightedPosting → Type 0) (first : (p : WeightedPosting) → Q p → P (begun p)) (next : (c : PlanSegment) (p : WeightedPosting) → is_of c p ≡ true → P c → Q p → P (more c p.doc)) where
  joined_all : (cs : List PlanSegment) (p : WeightedPosting) → AllByRecursion P cs → Q p → AllByRecursion P (joined cs p)
  joined_all [] p h q = (first p q, tt)
  joined_all (c ∷ cs) p h q =
      let rest = joined_all cs p h.1 q in elim (cases_Bool (is_of c p)) [ inl t ↦ rw t (next c p t h.0 q, h.1) | inr e ↦ rw e (h.0, rest) ]

  grouped_all : (cs : List PlanSegment) (ps : List WeightedPosting) → AllByRecursion P cs → AllByRecursion Q ps → AllByRecursion P (fold joined cs ps)
  grouped_all cs [] h q = h
  grouped_all cs (p ∷ ps) h q = grouped_all (joined cs p) ps (joined_all cs p h q.0) q.1

  pub segments_all : (ps : List WeightedPosting) → AllByRecursion Q ps → AllByRecursion P (plan_segments ps)
  segments_all ps q = all_sorted plan_cmp P (fold joined [] ps) (grouped_all [] ps tt q)

joined_length : (cs : List PlanSegment) (p : WeightedPosting) → length (joined cs p) ≤ suc (length cs)
joined_length [] p = omega arith
joined_length (c ∷ cs) p = let rest = joined_length cs p in elim (cases_Bool (is_of c p)) [ inl t ↦ rw t (omega arith) | inr e ↦ rw e (omega arith) ]

grouped_length : (cs : List PlanSegment) (ps : List WeightedPosting) → length (fold joined cs ps) ≤ length cs + length ps
grouped_length cs [] = omega arith
grouped_length cs (p ∷ ps) = let one = joined_length cs p in let rest = grouped_length (joined cs p) ps in omega arith

-- at most as many segments as postings
pub plan_length : (ps : List WeightedPosting) → length (plan_segments ps) ≤ length ps
plan_length ps =
    let same : length (plan_segments ps) ≡ length (fold joined [] ps) = sym (length_sum (plan_segments ps)) ∙ sum_by-sorted plan_cmp (λ c. 1) (fold joined [] ps) ∙ length_sum (fold joined [] ps) in
    omega (arith, grouped_length [] ps)
