-- A table of values by number, in which some are missing.
use Rattle.std.specs.Prelude.{ℕ, ◌+◌, ◌-◌, Bool, List, [], ◌++◌, length, fold, Option, Some, None, replicate, slice_index_or, slice_set, is_some}
use Rattle.std.specs.List.{filter_map}

module _ {R : Type 0} where
  -- whether the table has a value of this number
  abbrev pub has_value : List (Option R) → ℕ → Bool
  has_value table n = is_some (slice_index_or table n None)

  -- the table, made longer where the number lies past its end
  abbrev pub reaching : List (Option R) → ℕ → List (Option R)
  reaching table n = table ++ replicate (n + 1 - length table) None

  -- the table with the value of a number
  abbrev pub with_value : List (Option R) → ℕ → R → List (Option R)
  with_value table n value = slice_set (reaching table n) n (Some value)

  -- the values by rising numbers
  abbrev pub values_of : List (Option R) → List R
  values_of table = filter_map (λ entry. entry) table

  -- the table of values with their numbers
  abbrev pub table_with : List (ℕ × R) → List (Option R)
  table_with entries = fold (λ (table : List (Option R)) (e : ℕ × R). with_value table e.0 e.1) [] entries
