-- What a map of names and contents in memory tells.
use Rattle.std.specs.Prelude.{ℕ, List, String, Vec, map}
use Rattle.std.specs.BTreeMap.{BTreeMap}
use Rattle.std.specs.String.{string_bytes}
use Rattle.std.specs.FinMap.{from_entries}
use Rattle.std.specs.declared.alloc.Global.{Global}
use Rattle.jass_base.specs.Outside.{Files}

-- a name and its content, as lists of bytes
abbrev pub named : String Global × Vec ℕ Global → List ℕ × List ℕ
named entry = (string_bytes entry.0, entry.1.items)

-- the contents by name
unfoldable pub files_of : BTreeMap (String Global) (Vec ℕ Global) → Files
files_of m = from_entries (map named m.entries)
