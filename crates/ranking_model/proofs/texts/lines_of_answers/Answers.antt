-- Each number has one digit, and the rest computes.
use Rattle.shared_lemmas.proofs.Common.{refl, arith, decimal_digit}
use Rattle.ranking_model.specs.Plan.{plan_of}
use Rattle.ranking_model.proofs.texts.lines_of_answers.Goals as goal

pub returns-clause-a : goal.returns-clause-a
unfolding plan_of
returns-clause-a c = rw (decimal_digit 9 (omega arith), decimal_digit 5 (omega arith), decimal_digit 3 (omega arith), decimal_digit 2 (omega arith), decimal_digit 1 (omega arith)) refl

pub returns-clause-cat_dog : goal.returns-clause-cat_dog
unfolding plan_of
returns-clause-cat_dog c = rw (decimal_digit 3 (omega arith), decimal_digit 2 (omega arith), decimal_digit 1 (omega arith)) refl
