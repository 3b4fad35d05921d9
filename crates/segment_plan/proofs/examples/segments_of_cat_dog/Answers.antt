use Rattle.shared_lemmas.proofs.Common.{◌≡◌, zero, suc, ◌<◌, ◌≤◌, length, inl, arith, AllPairs, All-from_recursion}
use Rattle.segment_plan.specs.declared.entry.PlanHead.{PlanHead}
use Rattle.segment_plan.specs.Entries.{Fall}
use Rattle.segment_plan.specs.Examples.{cat_dog_heads}
use Rattle.segment_plan.proofs.examples.segments_of_cat_dog.Goals as goal

fall : AllPairs (λ a b. a.term_place ≡ b.term_place → Fall a b) cat_dog_heads
fall zero zero d a b same = absurd (omega arith)
fall zero (suc zero) d a b same = inl (omega arith, omega arith)
fall zero (suc (suc zero)) d a b same = absurd (omega (arith, same))
fall zero (suc (suc (suc zero))) d a b same = absurd (omega (arith, same))
fall zero (suc (suc (suc (suc j)))) d a b same = absurd (omega arith)
fall (suc zero) zero d a b same = absurd (omega arith)
fall (suc zero) (suc zero) d a b same = absurd (omega arith)
fall (suc zero) (suc (suc zero)) d a b same = absurd (omega (arith, same))
fall (suc zero) (suc (suc (suc zero))) d a b same = absurd (omega (arith, same))
fall (suc zero) (suc (suc (suc (suc j)))) d a b same = absurd (omega arith)
fall (suc (suc zero)) zero d a b same = absurd (omega arith)
fall (suc (suc zero)) (suc zero) d a b same = absurd (omega arith)
fall (suc (suc zero)) (suc (suc zero)) d a b same = absurd (omega arith)
fall (suc (suc zero)) (suc (suc (suc zero))) d a b same = inl (omega arith, omega arith)
fall (suc (suc zero)) (suc (suc (suc (suc j)))) d a b same = absurd (omega arith)
fall (suc (suc (suc i))) j d a b same = absurd (omega arith)

pub returns : goal.returns
returns c = λ terms two. record {
  inside = All-from_recursion (λ (h : PlanHead). h.term_place < length terms) cat_dog_heads (omega arith, (omega arith, (omega arith, (omega arith, tt))));
  impacts = All-from_recursion (λ (h : PlanHead). 1 ≤ h.impact) cat_dog_heads (omega arith, (omega arith, (omega arith, (omega arith, tt))));
  counts = All-from_recursion (λ (h : PlanHead). 1 ≤ h.count) cat_dog_heads (omega arith, (omega arith, (omega arith, (omega arith, tt))));
  fall = fall;
}
