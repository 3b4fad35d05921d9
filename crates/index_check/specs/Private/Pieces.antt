-- What is held of a content.
use Rattle.std.specs.Prelude.{ℕ, ◌≡◌, List, length}
use Rattle.whole_files.specs.Windows.{Shows}
use Rattle.index_check.specs.declared.held.Held.{Held}

-- what is held is of a content, whose size is known
abbrev pub Holds : List ℕ → Held → Type 0
Holds content held = Shows content held.window × (held.size ≡ length content)
