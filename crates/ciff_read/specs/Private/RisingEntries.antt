-- Lists whose terms stand one behind the other in one sequence of bytes.
use Rattle.std.specs.Prelude.{ℕ, ◌≤◌, ◌^◌, List, length, map, slice_range, All, AllPairs}
use Rattle.jass_base.specs.Terms.{BytesRise}
use Rattle.ciff_read.specs.declared.kept_lists.ListPlace.{ListPlace}
use Rattle.ciff_read.specs.declared.rising_lists.KeptTerm.{KeptTerm}
use Rattle.ciff_read.specs.Private.KeptEntries.{terms_in}

-- the term of a list, which stands within the bytes
abbrev pub term_of : List ℕ → KeptTerm → List ℕ
term_of bytes list = slice_range bytes list.from list.to

abbrev pub IsWithin : List ℕ → KeptTerm → Type 0
IsWithin bytes list = (list.from ≤ list.to) × (list.to ≤ length bytes)

-- the lists by their terms and places
abbrev pub entries_at : List ℕ → List KeptTerm → List (List ℕ × ListPlace)
entries_at bytes lists = map (λ (list : KeptTerm). (term_of bytes list, list.place)) lists

-- lists whose terms stand within the bytes and rise
pub record AreRising (bytes : List ℕ) (lists : List KeptTerm) : Type 0 where
  pub within : All (IsWithin bytes) lists
  pub rises : AllPairs BytesRise (terms_in (entries_at bytes lists))
  pub few : length lists ≤ 2 ^ 32
