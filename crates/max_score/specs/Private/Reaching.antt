-- Documents that have at least some weight in a list.
use Rattle.std.specs.Prelude.{ℕ, ◌<◌, ◌≤◌, ◌==◌, List, length, count_by}
use Rattle.std.specs.List.{AllByRecursion}
use Rattle.max_score.specs.declared.term_list.TermList.{TermList}
use Rattle.max_score.specs.Private.Lists.{weight_in}

-- k documents, each once, have at least this weight
pub record HasMany (docs k weight : ℕ) (list : TermList) : Type 0 where
  pub them : List ℕ
  pub once : (doc : ℕ) → count_by (λ d. d == doc) them ≤ 1
  pub many : k ≤ length them
  pub inside : AllByRecursion (λ d. d < docs) them
  pub weigh : AllByRecursion (λ d. weight ≤ weight_in d list) them
