-- The terms and the places of lists that were given.
use Rattle.std.specs.Prelude.{ℕ, List, map}
use Rattle.ciff_read.specs.declared.kept_lists.ListPlace.{ListPlace}
use Rattle.ciff_read.specs.Pieces.{terms_kept}
use Rattle.ciff_read.specs.KeptEntries.{kept_from}

abbrev pub terms_in : List (List ℕ × ListPlace) → List (List ℕ)
terms_in entries = terms_kept (kept_from entries)

abbrev pub places_in : List (List ℕ × ListPlace) → List ListPlace
places_in entries = map (λ (e : List ℕ × ListPlace). e.1) entries
