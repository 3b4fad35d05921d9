use Rattle.shared_lemmas.proofs.Common.{rules, ◌≤◌, ◌∙◌, List, sym, subst, arith, length, All-from_recursion}
use Rattle.segment_plan.specs.declared.entry.PlanHead.{PlanHead}
use Rattle.segment_plan.proofs.Counting.{none}
use Rattle.segment_plan.specs.declared.entry.PlanEntry.{PlanEntry}
use Rattle.segment_plan.specs.Private.Tables.{AreSums, AreBoundsFrom}
use Rattle.segment_plan.specs.Private.Arranging.{AreLight}
use Rattle.segment_plan.proofs.Arranged.{arranged_few, light_sorted}
use Rattle.segment_plan.proofs.plan.Plan.new.Goals as goal

pub sums_of-requires : goal.sums_of-requires
sums_of-requires c = arranged_few c.as_slice-terms.result.now c.args.heads.now c.in_ok-entries.entries.items c.as_slice.result.now (search rules) (search rules)
    (λ i h. let small = All-from_recursion (λ (head : PlanHead). head.impact ≤ 65535) c.args.heads.now c.in_ok-entries.ensures.small i none h in omega arith)
    c.in_ok-entries.ensures.entries (c.as_slice.ensures.value ∙ c.in_ok-arrange.ensures)

pub bounds_of-requires-clause-light : goal.bounds_of-requires-clause-light
bounds_of-requires-clause-light c = subst (AreLight (length c.as_slice-terms.result.now)) (sym (c.as_slice-2.ensures.value ∙ c.in_ok-arrange.ensures))
    (light_sorted (length c.as_slice-terms.result.now) c.in_ok-entries.entries.items c.in_ok-entries.ensures.light)

pub invariant_of-result : goal.invariant_of-result
invariant_of-result c = record {
  few = let few = arranged_few c.as_slice-terms.result.now c.args.heads.now c.in_ok-entries.entries.items c.as_slice.result.now (search rules) (search rules)
      (λ i h. let small = All-from_recursion (λ (head : PlanHead). head.impact ≤ 65535) c.args.heads.now c.in_ok-entries.ensures.small i none h in omega arith)
      c.in_ok-entries.ensures.entries (c.as_slice.ensures.value ∙ c.in_ok-arrange.ensures) in omega arith;
  summed = subst (AreSums c.in_ok-sums.sums.items) c.as_slice.ensures.value c.in_ok-sums.ensures;
  bounded = subst (λ (entries : List PlanEntry). AreBoundsFrom 0 c.in_ok-bounds.bounds.items (record { terms = length c.as_slice-terms.result.now; entries = entries })) c.as_slice-2.ensures.value c.in_ok-bounds.ensures;
}
