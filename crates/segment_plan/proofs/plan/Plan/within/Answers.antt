use Rattle.shared_lemmas.proofs.Common.{◌∙◌, ◌-◌, ◌≤◌, sym, subst, ap, length, take, drop, take_rest}
use Rattle.segment_plan.specs.Entries.{PlanView, entries_within}
use Rattle.segment_plan.proofs.Prefixes.{shown_rise, shown_within}
use Rattle.segment_plan.proofs.plan.Plan.within.Goals as goal

pub longest-requires-clause-rising : goal.longest-requires-clause-rising
longest-requires-clause-rising c = shown_rise c.self.inside.entries.items c.self.inside.sums.items (take (length c.deref.result.now - c.args.from) (drop c.args.from c.deref.result.now)) c.args.from
    c.self.invariant.summed (take_rest c.deref.result.now c.args.from ∙ ap (drop c.args.from) c.deref.ensures.value) (subst (λ (v : PlanView). c.args.from ≤ length v.entries) (sym c.self.view_is) c.requires)

pub returns-clause-many : goal.returns-clause-many
returns-clause-many c = shown_within c.self.inside.entries.items c.self.inside.sums.items (take (length c.deref.result.now - c.args.from) (drop c.args.from c.deref.result.now)) c.args.from
    c.self.invariant.summed (take_rest c.deref.result.now c.args.from ∙ ap (drop c.args.from) c.deref.ensures.value)
    (subst (λ (v : PlanView). c.args.from ≤ length v.entries) (sym c.self.view_is) c.requires) c.longest.result c.args.left c.longest.ensures.there
    c.longest.ensures.fits c.longest.ensures.stops ∙ ap (λ (v : PlanView). entries_within c.args.left (drop c.args.from v.entries)) c.self.view_is
