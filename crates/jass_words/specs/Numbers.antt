-- Numbers in words, and words in their place. This project's grammar.
use Rattle.std.specs.Prelude.{ℕ, ◌≡◌, ◌≤◌, List, codes, Some}
use Rattle.jass_base.specs.Decimal.{decimal_of}
use Rattle.jass_base.specs.declared.answer.Budget.{Budget}
use Rattle.jass_base.specs.declared.answer.Budget.TheVariants as budgets
use Rattle.jass_base.specs.declared.limits.TheConstants.{MOST_HITS}

-- a number from a least to a greatest one
pub record IsNumber (word : List ℕ) (least most n : ℕ) : Type 0 where
  pub decimal : decimal_of word ≡ Some n
  pub some : least ≤ n
  pub limit : n ≤ most

-- a number of hits
abbrev pub IsCount : List ℕ → ℕ → Type 0
IsCount word k = IsNumber word 1 MOST_HITS k

-- a number of postings, or all
abbrev pub IsBudget : List ℕ → Budget → Type 0
IsBudget word (budgets.Postings n) = decimal_of word ≡ Some n
IsBudget word budgets.All = word ≡ codes "all"
