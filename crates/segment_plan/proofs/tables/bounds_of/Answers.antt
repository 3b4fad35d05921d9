use Rattle.shared_lemmas.proofs.Common.{rules, ℕ, ◌+◌, ◌∙◌, List, length, ap, arith, refl, get_or, ◌-◌, replicate, get_or-replicate}
use Rattle.segment_plan.specs.declared.entry.PlanEntry.{PlanEntry}
use Rattle.segment_plan.proofs.Bounds.{seen_start, seen_step, zeros_at}
use Rattle.segment_plan.proofs.tables.bounds_of.Goals as goal

abbrev none : PlanEntry
none = record { term_place = 0; segment = 0; weight = 0; count = 0 }

pub loop-at-init : goal.loop-at-init
loop-at-init c = seen_start c.args.entries.now c.args.terms c.in-Ok.bounds.items (replicate 256 0) refl zeros_at (search rules)
    (ap (λ (l : List ℕ). get_or l (length c.args.entries.now) 0) (c.in-Ok.ensures.items_if_clones_equal (λ y h. search rules)) ∙ get_or-replicate (length c.args.entries.now + 1) (length c.args.entries.now) 0 0 (omega arith))

pub overflow_add-bound : goal.overflow_add-bound
overflow_add-bound c =
    let next = seen_step c.args.entries.now c.args.terms c.loop-at.at c.loop-at.bound c.max-now.result c.loop-at.bounds.items c.loop-at.greatest none (get_or c.args.entries.now (c.loop-at.at - 1) none)
    c.requires.few c.requires.light c.loop-at.invariant (search rules) refl c.max-now.ensures in
    omega (arith, next.1)

pub loop-at-preserved : goal.loop-at-preserved
loop-at-preserved c =
    (seen_step c.args.entries.now c.args.terms c.loop-at.at c.loop-at.bound c.max-now.result c.loop-at.bounds.items c.loop-at.greatest none (get_or c.args.entries.now (c.loop-at.at - 1) none)
    c.requires.few c.requires.light c.loop-at.invariant (search rules) refl c.max-now.ensures).0
