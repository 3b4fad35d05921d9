-- Terms that earlier lists have.
use Rattle.std.specs.Prelude.{ℕ, Bool, List}
use Rattle.std.specs.List.{list_any}
use Rattle.std.specs.Str.{bytes_eq}

-- whether the term is one of these
abbrev pub is_seen : List ℕ → List (List ℕ) → Bool
is_seen term terms = list_any (bytes_eq term) terms
