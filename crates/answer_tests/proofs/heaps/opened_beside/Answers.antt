use Rattle.std.proofs.Common.{◌≢◌, rules}
use Rattle.accumulator_pages.specs.Pages.{own_chain}
use Rattle.answer_tests.proofs.heaps.opened_beside.Goals as goal

pub returns-clause-other : goal.returns-clause-other
returns-clause-other g c =
    let apart : own_chain c.args.other.now ≢ own_chain c.opened.result.0 = search rules in
    c.calls_on_other_chains_leave_pages.ensures.stands c.args.other.now c.args.pool.now c.opened.new.pool (own_chain c.opened.result.0) c.opened.ensures.others apart c.requires.other
