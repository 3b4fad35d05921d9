use Rattle.shared_lemmas.proofs.Common.{◌∙◌, sym, ap, subst, length, List, IsSorted}
use Rattle.ranking_model.specs.declared.plan_segment.PlanSegment.{PlanSegment}
use Rattle.ranking_model.specs.Programs.{AreLight, place_cmp}
use Rattle.ranking_model.specs.Plan.{plan_segments}
use Rattle.ranking_model.specs.Limits.{IsSmall}
use Rattle.ranking_model.proofs.Weighing.{weighted_in_order}
use Rattle.ranking_model.proofs.Small.{plan_is_small}
use Rattle.ranking_model.specs.Plan.{plan_of}
use Rattle.ranking_model.proofs.plan.plan_of.Goals as goal

pub plan_segments-requires : goal.plan_segments-requires
unfolding plan_of
plan_segments-requires c = subst (IsSorted place_cmp) (sym (c.as_slice.ensures ∙ c.in_ok-postings.ensures.postings)) (weighted_in_order c.args.docs c.args.entries.now c.args.terms.now c.requires.flat)

pub returns-clause-small : goal.returns-clause-small
unfolding plan_of
returns-clause-small c = subst (λ (segments : List PlanSegment). IsSmall (record { docs = c.args.docs; terms = length c.args.terms.now; segments = segments }))
    (sym (c.in_ok-segments.ensures ∙ ap plan_segments (c.as_slice.ensures ∙ c.in_ok-postings.ensures.postings)))
    (plan_is_small c.args.docs c.args.entries.now c.args.terms.now c.requires.flat c.requires.terms c.requires.postings (subst AreLight c.in_ok-postings.ensures.postings c.in_ok-postings.ensures.light))
