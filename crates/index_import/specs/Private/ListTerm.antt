-- The term of a list, be it short or long.
use Rattle.std.specs.Prelude.{ℕ, List}
use Rattle.index_import.specs.declared.list_term.TermText.{TermText}
use Rattle.index_import.specs.declared.list_term.TermText.TheVariants.{Short, Long}

-- its bytes
abbrev pub bytes_in : TermText → List ℕ
bytes_in (Short text) = text.bytes
bytes_in (Long text) = text
