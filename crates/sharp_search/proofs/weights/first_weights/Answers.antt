use Rattle.shared_lemmas.proofs.Common.{rules, ◌≡◌, ℕ, ◌<◌, ◌-◌, ◌∙◌, ap, arith, length, length-map-range_with_len, drop}
use Rattle.segment_plan.specs.declared.entry.PlanEntry.{PlanEntry}
use Rattle.segment_plan.specs.Entries.{greatest_at}
use Rattle.session_engine.proofs.EntryLists.{there}
use Rattle.sharp_search.proofs.Heaviest.{none_yet, raised_at}
use Rattle.sharp_search.proofs.weights.first_weights.Goals as goal

pub entries-init : goal.entries-init
entries-init c = (c.in-Ok.ensures.items_if_clones_equal (λ y h. search rules) ∙ none_yet c.args.terms c.len-from.result c.args.plan.now.entries c.len-from.ensures, omega (arith, c.len-from.ensures))

pub raise-requires : goal.raise-requires
raise-requires c =
    let inside : c.entry.result.term_place < c.args.terms = there (λ (e : PlanEntry). e.term_place < c.args.terms) c.args.plan.now.entries (c.entries.from - 1) c.entry.result c.entry.ensures c.requires in
    let many = ap length c.entries.invariant.0 ∙ length-map-range_with_len (λ t. greatest_at t (drop c.entries.from c.args.plan.now.entries)) 0 c.args.terms in
    omega (arith, inside, many)

pub entries-preserved : goal.entries-preserved
entries-preserved c =
    let test = c.entries-test.true in (
      raised_at c.args.terms c.entries.from (c.entries.from - 1) c.entry.result c.args.plan.now.entries c.entries.weights.items c.raise.new.weights.items (omega (arith, test)) c.entry.ensures
          (there (λ (e : PlanEntry). e.term_place < c.args.terms) c.args.plan.now.entries (c.entries.from - 1) c.entry.result c.entry.ensures c.requires) c.entries.invariant.0 c.raise.ensures,
      omega (arith, c.entries.invariant.1),
    )
