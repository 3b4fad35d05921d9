-- The numbers of a query's plan on an index fit the types of a report.
use Rattle.shared_lemmas.proofs.Common.{◌≡◌, ℕ, ◌+◌, ◌*◌, ◌^◌, ◌<◌, ◌≤◌, List, [], ◌∷◌, ◌++◌, length, drop, true, false, cond, refl, ◌∙◌, arith, inl, inr, ◌⊎◌, ◌==◌, sum_by, count_by, All, AllByRecursion, range_with_len, nat_cmp, nat_tests, take-length, recursion_from_All, sum_by_push}
use Rattle.shared_lemmas.proofs.Common.{sum_by-take-le, sum_by-le, length-range_with_len, cases_Bool}
use Rattle.std.proofs.Common.{length-append}
use Rattle.ranking_model.specs.declared.entry.Entry.{Entry}
use Rattle.ranking_model.specs.Programs.{AreLight}
use Rattle.jass_base.specs.declared.query_term.QueryTerm.{QueryTerm}
use Rattle.ranking_model.specs.declared.posting.WeightedPosting.{WeightedPosting}
use Rattle.ranking_model.specs.declared.plan_segment.PlanSegment.{PlanSegment}
use Rattle.ranking_model.specs.declared.plan.QueryPlan.{QueryPlan}
use Rattle.ranking_model.specs.Flat.{IsFlat}
use Rattle.ranking_model.specs.Postings.{AreTerms, weighted_postings}
use Rattle.ranking_model.specs.Plan.{is_of, begun, plan_segments, plan_of}
use Rattle.ranking_model.specs.Scores.{adds, gain_of, greatest_weight, bound_after}
use Rattle.ranking_model.specs.Limits.{IsSmall}
use Rattle.ranking_model.proofs.Grouping.{more, segments_sum, segments_all, plan_length, length_sum}
use Rattle.ranking_model.proofs.Weighing.{weighted_length, weighted_documents, all_add}
use Rattle.shared_lemmas.proofs.Pairs.{pairs_by_recursion}
use Rattle.shared_lemmas.proofs.Lists.{all_drop, all_append}

-- ---- what a posting adds to its segment

size_first : (p : WeightedPosting) → length (begun p).docs ≡ 1
size_first p = refl

size_next : (c : PlanSegment) (p : WeightedPosting) → is_of c p ≡ true → length (more c p.doc).docs ≡ length c.docs + 1
size_next c p e = length-append c.docs (p.doc ∷ [])

pub sizes : (ps : List WeightedPosting) → sum_by (λ (c : PlanSegment). length c.docs) (plan_segments ps) ≡ length ps
sizes ps = segments_sum (λ c. length c.docs) (λ p. 1) size_first size_next ps ∙ length_sum ps

gain_first : (doc : ℕ) (p : WeightedPosting) → gain_of doc (begun p) ≡ adds doc p
gain_first doc p = elim (cases_Bool (p.doc == doc)) [ inl t ↦ rw t (omega arith) | inr f ↦ rw f (omega arith) ]

same_weight : (c : PlanSegment) (p : WeightedPosting) → is_of c p ≡ true → c.weight ≡ p.weight
same_weight c p e = grind (arith, nat_tests)

gain_next : (doc : ℕ) (c : PlanSegment) (p : WeightedPosting) → is_of c p ≡ true → gain_of doc (more c p.doc) ≡ gain_of doc c + adds doc p
gain_next doc c p e = by (cases_Bool (p.doc == doc)) where
  count : count_by (λ d. d == doc) (c.docs ++ p.doc ∷ []) ≡ count_by (λ d. d == doc) c.docs + cond (p.doc == doc) 1 0
  count = sum_by_push (λ d. cond (d == doc) 1 0) c.docs p.doc

  by : ((p.doc == doc) ≡ true) ⊎ ((p.doc == doc) ≡ false) → gain_of doc (more c p.doc) ≡ gain_of doc c + adds doc p
  by (inl t) = let same = same_weight c p e in rw (count, t) (omega arith)
  by (inr f) = rw (count, f) (omega arith)

pub gains : (doc : ℕ) (ps : List WeightedPosting) → sum_by (gain_of doc) (plan_segments ps) ≡ sum_by (adds doc) ps
gains doc ps = segments_sum (gain_of doc) (adds doc) (gain_first doc) (gain_next doc) ps

-- ---- the bound

greatest_weight_le : (term_place m : ℕ) (cs : List PlanSegment) → AllByRecursion (λ c. c.weight ≤ m) cs → greatest_weight term_place cs ≤ m
greatest_weight_le term_place m [] h = omega arith
greatest_weight_le term_place m (c ∷ cs) h =
    let rest = greatest_weight_le term_place m cs h.1 in
    elim (cases_Bool (c.term_place == term_place)) [ inl t ↦ let here = h.0 in rw t (omega arith) | inr f ↦ rw f rest ]

bound_le : (n m : ℕ) (plan : QueryPlan) → AllByRecursion (λ c. c.weight ≤ m) plan.segments → bound_after n plan ≤ plan.terms * m
bound_le n m plan h =
    let each : All (λ term_place. greatest_weight term_place (drop n plan.segments) ≤ m) (range_with_len 0 plan.terms) = λ k d j. greatest_weight_le _ m _ (all_drop _ n plan.segments h) in
    let total = sum_by-le (λ term_place. greatest_weight term_place (drop n plan.segments)) m (range_with_len 0 plan.terms) each in
    rw length-range_with_len at total

pub plan_is_small : (docs : ℕ) (flat : List (Entry ℕ)) (terms : List QueryTerm) → IsFlat nat_cmp docs flat → AreTerms terms → length flat ≤ 2 ^ 29 → AreLight (weighted_postings flat terms) → IsSmall (plan_of docs flat terms)
unfolding plan_of
plan_is_small docs flat terms f t few light = record {
  documents = segments_all (λ c. AllByRecursion (λ doc. doc < docs) c.docs) (λ p. p.doc < docs) (λ p h. (h, tt)) (λ c p e h k. all_append (λ doc. doc < docs) c.docs (p.doc ∷ []) h (k, tt)) ps (weighted_documents docs 0 terms flat f t);
  postings = let all = take-length (plan_segments ps) in let total = sizes ps in rw (all, total) (omega (arith, long));
  segments = let count = plan_length ps in omega (arith, long);
  bounds = λ n. let most = bound_le n 16711425 (plan_of docs flat terms) weights in let few = t.few in omega arith;
  scores = λ n doc. let part = sum_by-take-le (gain_of doc) (plan_segments ps) n in let all = gains doc ps in let most = all_add doc docs 0 terms flat f (recursion_from_All _ ps light) in let few = t.few in omega arith;
}
  where
    ps : List WeightedPosting
    ps = weighted_postings flat terms

    long : length ps ≤ length flat
    long = weighted_length 0 terms flat (pairs_by_recursion _ terms t.differ)

    weights : AllByRecursion (λ c. c.weight ≤ 16711425) (plan_segments ps)
    weights = segments_all (λ c. c.weight ≤ 16711425) (λ p. p.weight ≤ 16711425) (λ p h. h) (λ c p e h k. h) ps (recursion_from_All _ ps light)
