-- Scores as sums over posting lists, and their bounds.
use Rattle.std.specs.Prelude.{ℕ, ◌≡◌, ◌+◌, ◌*◌, ◌<◌, ◌≤◌, ◌^◌, List, length, map, take, get_or, sum_by, slice_index, All}
use Rattle.std.specs.List.{range_with_len}
use Rattle.max_score.specs.declared.term_list.TermList.{TermList}

-- what a list adds to the score of a document
abbrev pub weight_in : ℕ → TermList → ℕ
weight_in doc list = slice_index list.cursor.impacts doc * list.times

-- the score of a document
abbrev pub score_in : List TermList → ℕ → ℕ
score_in lists doc = sum_by (weight_in doc) lists

-- the scores of so many documents
abbrev pub scores_in : ℕ → List TermList → List ℕ
scores_in docs lists = map (score_in lists) (range_with_len 0 docs)

-- the most that lists add to a score
abbrev pub most_of : List TermList → ℕ
most_of lists = sum_by (λ (list : TermList). list.greatest) lists

-- each weight is at most its list's greatest, and the bound of a list is the most that it and those before it add
pub record AreBounded (lists : List TermList) : Type 0 where
  pub greatest : All (λ (list : TermList). (doc : ℕ) → weight_in doc list ≤ list.greatest) lists
  pub bounds : (i : ℕ) (none : TermList) → i < length lists → (get_or lists i none).bound ≡ most_of (take (i + 1) lists)
  pub fits : most_of lists < 2 ^ 32
