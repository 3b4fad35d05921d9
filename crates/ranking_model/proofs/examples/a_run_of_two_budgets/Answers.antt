-- Each number has one digit, and the rest computes.
use Rattle.shared_lemmas.proofs.Common.{refl, arith, decimal_digit}
use Rattle.ranking_model.specs.Plan.{plan_of}
use Rattle.ranking_model.proofs.examples.a_run_of_two_budgets.Goals as goal

pub returns-clause-two : goal.returns-clause-two
unfolding plan_of
returns-clause-two c = rw (decimal_digit 3 (omega arith), decimal_digit 2 (omega arith), decimal_digit 1 (omega arith)) refl

pub returns-clause-one : goal.returns-clause-one
unfolding plan_of
returns-clause-one c = rw (decimal_digit 3 (omega arith), decimal_digit 2 (omega arith), decimal_digit 1 (omega arith)) refl
