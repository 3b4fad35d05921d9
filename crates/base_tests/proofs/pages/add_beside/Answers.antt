use Rattle.std.proofs.Common.{ℕ, ap, ◌∙◌}
use Rattle.frame_pool.specs.ChainView.{chain_view}
use Rattle.base_tests.proofs.pages.add_beside.Goals as goal

pub returns-clause-other_stands : goal.returns-clause-other_stands
returns-clause-other_stands g c =
    c.calls_on_other_chains_leave_pages.ensures.stands c.args.other.now _ _ _ c.add_first.ensures.leaves.others c.requires.apart c.requires.other_stands

pub returns-clause-other_view : goal.returns-clause-other_view
returns-clause-other_view g c = c.calls_on_other_chains_leave_pages.ensures.view c.args.other.now _ _ _ c.add_first.ensures.leaves.others c.requires.apart

pub returns-clause-promise : goal.returns-clause-promise
returns-clause-promise g c = ap (λ (x : ℕ). (chain_view c.add_first.new.pool x).promise) c.add_first.ensures.same.chain ∙ c.add_first.ensures.leaves.promise
