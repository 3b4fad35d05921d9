-- Each number has one digit, and the rest computes.
use Rattle.shared_lemmas.proofs.Common.{refl, arith, decimal_digit}
use Rattle.ranking_model.proofs.texts.report_lines.Goals as goal

pub returns-clause-all : goal.returns-clause-all
returns-clause-all c = rw (decimal_digit 3 (omega arith), decimal_digit 1 (omega arith), decimal_digit 0 (omega arith)) refl

pub returns-clause-unknown : goal.returns-clause-unknown
returns-clause-unknown c = rw (decimal_digit 3 (omega arith), decimal_digit 1 (omega arith), decimal_digit 0 (omega arith)) refl

pub returns-clause-open : goal.returns-clause-open
returns-clause-open c = rw (decimal_digit 4 (omega arith), decimal_digit 3 (omega arith), decimal_digit 2 (omega arith), decimal_digit 1 (omega arith), decimal_digit 0 (omega arith)) refl

pub returns-clause-nothing : goal.returns-clause-nothing
returns-clause-nothing c = rw (decimal_digit 6 (omega arith), decimal_digit 4 (omega arith), decimal_digit 3 (omega arith), decimal_digit 0 (omega arith)) refl

pub returns-clause-set : goal.returns-clause-set
returns-clause-set c = rw (decimal_digit 3 (omega arith), decimal_digit 2 (omega arith), decimal_digit 1 (omega arith), decimal_digit 0 (omega arith)) refl
