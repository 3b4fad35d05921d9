-- One read behind held bytes.
use Rattle.std.specs.Prelude.{ℕ, ◌≡◌, List, ◌++◌, length, Option, Result, Ok, Err}
use Rattle.std.specs.Io.KnownBytes.{Consumes, Keeps, IsAtEnd}

-- so many bytes were taken off the front of the input and stand behind those that were held; none only at its end
pub record ReadsSome (before after : Option (List ℕ)) (old new : List ℕ) (count : ℕ) : Type 0 where
  pub taken : List ℕ
  pub size : length taken ≡ count
  pub consumed : Consumes before after taken
  pub bytes : new ≡ old ++ taken
  pub end : count ≡ 0 → IsAtEnd after

-- one read behind held bytes
abbrev pub Reads : {E : Type 0} → Option (List ℕ) → Option (List ℕ) → List ℕ → List ℕ → Result ℕ E → Type 0
Reads before after old new (Ok count) = ReadsSome before after old new count
Reads before after old new (Err fault) = Keeps before after × (new ≡ old)
