-- The limits of names and terms.
use Rattle.std.specs.Prelude.{ℕ, ◌≡◌, ◌<◌, ◌≤◌, ◌≢◌, true, List, length, All}
use Rattle.std.specs.Str.{is_utf8}
use Rattle.jass_base.specs.declared.limits.TheConstants.{LONGEST_NAME}

-- the bytes are UTF-8 (Unicode)
abbrev pub IsText : List ℕ → Type 0
IsText bytes = is_utf8 bytes ≡ true

-- a name of a document: 1 to 1,048,576 bytes, none of them a blank or a control character
pub record IsName (name : List ℕ) : Type 0 where
  pub some : 1 ≤ length name
  pub fits : length name ≤ LONGEST_NAME
  pub visible : All (λ b. (32 < b) × (b ≢ 127)) name
