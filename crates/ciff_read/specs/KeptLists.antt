-- Lists that were given: those whose terms rise, and then those that a table by term holds.
use Rattle.std.specs.Prelude.{ℕ, List, ◌++◌}
use Rattle.ciff_read.specs.declared.kept_lists.KeptLists.{KeptLists}
use Rattle.ciff_read.specs.declared.kept_lists.ListPlace.{ListPlace}
use Rattle.ciff_read.specs.KeptEntries.{hashed_in, kept_from}
use Rattle.ciff_read.specs.Pieces.{KeptList}

abbrev pub entries_in : KeptLists → List (List ℕ × ListPlace)
entries_in lists = lists.rising ++ hashed_in lists.hashed.entries

abbrev pub kept_in : KeptLists → List KeptList
kept_in lists = kept_from (entries_in lists)
