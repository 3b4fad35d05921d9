use Rattle.std.proofs.Common.{◌≡◌, ◌≢◌, ℕ, Option, None, IsSome, get_or, subst}
use Rattle.frame_pool.specs.Pool.{ChainEntry, PoolView}
use Rattle.accumulator_pages.specs.declared.pages.Pages.{Pages}
use Rattle.accumulator_pages.specs.Pages.{Stands, own_chain}
use Rattle.base_tests.proofs.pages.opened_beside.Goals as goal

not_some : IsSome {T = ChainEntry} None → ⊥
not_some h = cc

unused_apart : (pages : Pages) (pool : PoolView) (chain : ℕ) → Stands pages pool → get_or pool.chains chain None ≡ None → own_chain pages ≢ chain
unused_apart pages pool chain stands none same =
    not_some (subst (λ (e : Option ChainEntry). IsSome e) none (subst (λ (c : ℕ). IsSome (get_or pool.chains c None)) same stands.in_use))

pub returns-clause-apart : goal.returns-clause-apart
returns-clause-apart g c = unused_apart c.args.other.now c.args.pool.now _ c.requires c.opened.ensures.unused

pub returns-clause-other_stands : goal.returns-clause-other_stands
returns-clause-other_stands g c =
    c.calls_on_other_chains_leave_pages.ensures.stands c.args.other.now _ _ _ c.opened.ensures.others (unused_apart c.args.other.now c.args.pool.now _ c.requires c.opened.ensures.unused) c.requires

pub returns-clause-other_view : goal.returns-clause-other_view
returns-clause-other_view g c =
    c.calls_on_other_chains_leave_pages.ensures.view c.args.other.now _ _ _ c.opened.ensures.others (unused_apart c.args.other.now c.args.pool.now _ c.requires c.opened.ensures.unused)
