-- Lists that were given, by their terms and their places.
use Rattle.std.specs.Prelude.{ℕ, List, map, String, string_bytes}
use Rattle.std.specs.declared.alloc.Global.{Global}
use Rattle.ciff_read.specs.declared.kept_lists.ListPlace.{ListPlace}
use Rattle.ciff_read.specs.Pieces.{KeptList}

-- a list by its term and its place
abbrev pub kept_as : List ℕ → ListPlace → KeptList
kept_as term place = record { term = term; at = place.at; count = place.count }

abbrev pub kept_from : List (List ℕ × ListPlace) → List KeptList
kept_from entries = map (λ (e : List ℕ × ListPlace). kept_as e.0 e.1) entries

-- the lists of a table by term
abbrev pub hashed_in : List (String Global × ListPlace) → List (List ℕ × ListPlace)
hashed_in entries = map (λ (e : String Global × ListPlace). (string_bytes e.0, e.1)) entries
