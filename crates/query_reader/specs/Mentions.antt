-- The mentions of a query and what it names. A mention's factor says how often it counts. This project's.
use Rattle.std.specs.Prelude.{ℕ, ◌==◌, Bool, false, not, List, [], ◌∷◌, map, filter, count_by, sum_by, position, bytes_eq, is_none, Option}
use Rattle.std.specs.List.{filter_map}
use Rattle.std.specs.Option.{option_map_or}
use Rattle.jass_base.specs.declared.query_term.QueryTerm.{QueryTerm}

-- a term that a query mentions, and how often the mention counts
pub record Mention : Type 0 where
  pub term : List ℕ
  pub factor : ℕ

-- words as they stand, each with factor 1
abbrev pub words_as_mentions : List (List ℕ) → List Mention
words_as_mentions words = map (λ word. record { term = word; factor = 1 }) words

-- the number of the mention's term among the terms of the index, where it is known
abbrev pub term_number : List (List ℕ) → Mention → Option ℕ
term_number terms m = position (λ t. bytes_eq t m.term) terms

-- numbers without repetitions, in the order of first mention
abbrev pub first_mentions : List ℕ → List ℕ
first_mentions [] = []
first_mentions (x ∷ xs) = x ∷ filter (λ y. not (y == x)) (first_mentions xs)

-- whether a mention names the term of a number
abbrev pub names_number : List (List ℕ) → ℕ → Mention → Bool
names_number terms number m = option_map_or (λ n. n == number) (term_number terms m) false

-- how often the mentions name the term of a number: the sum of their factors
abbrev pub times_named : List (List ℕ) → List Mention → ℕ → ℕ
times_named terms mentions number = sum_by (λ m. m.factor) (filter (names_number terms number) mentions)

-- the known terms of a query by first mention, each with the sum of the factors of its mentions
abbrev pub named_of : List (List ℕ) → List Mention → List QueryTerm
named_of terms mentions =
    map (λ number. record { term = number; times = times_named terms mentions number })
    (first_mentions (filter_map (term_number terms) mentions))

-- the number of mentions of terms that the index hasn't, whatever their factors
abbrev pub unknown_of : List (List ℕ) → List Mention → ℕ
unknown_of terms mentions = count_by (λ m. is_none (term_number terms m)) mentions
