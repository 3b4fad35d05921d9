use Rattle.std.proofs.Common.{ℕ, List, get_or, ap, arith, get_or-set_same}
use Rattle.accumulator_pages.specs.Pages.{own_view, pages_scores}
use Rattle.accumulator_pages.proofs.Standing.{length-values}
use Rattle.base_tests.proofs.pages.add_first.Goals as goal

pub returns-clause-touched : goal.returns-clause-touched
returns-clause-touched g c =
    let scores : List ℕ = pages_scores c.args.pages.now c.args.pool.now in
    omega (
      arith,
      ap (λ (s : List ℕ). get_or s c.args.doc 0) c.add.ensures.scores,
      get_or-set_same scores c.args.doc c.add.result 0 (omega (arith, c.requires.inside, length-values (λ x. x.scores) c.args.pages.now.docs (own_view c.args.pages.now c.args.pool.now))),
      c.add.ensures.score,
      c.requires.weight,
    )
