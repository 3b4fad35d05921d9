-- What a comparison of numbers answers.
use Rattle.std.specs.Prelude.{◌≡◌, Option, Some, None, Result, Ok, Err}
use Rattle.index_write.specs.declared.change.Change.{Change}

-- the first difference is the fault, or there is none
abbrev pub Finds : {T : Type 0} → Option Change → Result T Change → Type 0
Finds first (Ok x) = first ≡ None
Finds first (Err change) = first ≡ Some change
