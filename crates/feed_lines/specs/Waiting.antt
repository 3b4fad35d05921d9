-- The bytes of an input that wait to be passed as lines, and what becomes of them. Lines end by LF, as in POSIX; a line
-- of at most 1,048,576 bytes fits with a CR and its LF. This project's.
use Rattle.std.specs.Prelude.{ℕ, ◌≡◌, ◌≢◌, ◌<◌, ◌≤◌, ◌+◌, Bool, true, false, ◌||◌, nat_le, List, [], ◌∷◌, ◌++◌, length, take, drop, All, Option, Some, None, Result, Ok, Err, if◌then◌else◌, ◌⊎◌}
use Rattle.std.specs.Io.KnownBytes.{Consumes, Keeps, IsAtEnd}
use Rattle.feed_lines.specs.declared.filled.Filled.{Filled}
use Rattle.feed_lines.specs.declared.room.TheConstants.{ROOM}
use Rattle.feed_lines.specs.declared.filled.Filled.TheVariants.{More, End, Limit}

-- the bytes that were taken and not passed, whether the line that they begin has lost bytes before them, and how many
-- bytes may still be taken
pub record Waiting : Type 0 where
  pub bytes : List ℕ
  pub long : Bool
  pub left : ℕ

abbrev pub nothing_yet : ℕ → Waiting
nothing_yet limit = record { bytes = []; long = false; left = limit }

-- a line and its LF are passed
abbrev pub passed_to : ℕ → Waiting → Waiting
passed_to end w = record { bytes = drop (end + 1) w.bytes; long = false; left = w.left }

-- a line is too long: it has lost bytes, or has as many as there is room for, and no end among them
abbrev pub is_too_long : Waiting → Bool
is_too_long w = w.long || nat_le 1048578 (length w.bytes)

-- what is kept when more bytes are taken: nothing of a line that is too long
abbrev pub kept : Waiting → Waiting
kept w = if is_too_long w then record { bytes = []; long = true; left = w.left } else w

-- the place of the first LF among bytes
pub record EndsFirst (bytes : List ℕ) (end : ℕ) : Type 0 where
  pub within : end < length bytes
  pub parts : bytes ≡ take end bytes ++ 10 ∷ drop (end + 1) bytes
  pub free : All (λ b. b ≢ 10) (take end bytes)

abbrev pub FirstEnd : List ℕ → Option ℕ → Type 0
FirstEnd bytes None = All (λ b. b ≢ 10) bytes
FirstEnd bytes (Some end) = EndsFirst bytes end

-- bytes were taken off the front of the input, at least one and at most as many as there is room for, and wait behind those that were kept
pub record Takes (before after : Option (List ℕ)) (old new : Waiting) : Type 0 where
  pub taken : List ℕ
  pub some : 0 < length taken
  pub most : length taken ≤ ROOM
  pub consumed : Consumes before after taken
  pub counted : old.left ≡ new.left + length taken
  pub bytes : new.bytes ≡ (kept old).bytes ++ taken
  pub long : new.long ≡ (kept old).long

-- nothing was taken
pub record TakesNothing (before after : Option (List ℕ)) (old new : Waiting) : Type 0 where
  pub stays : Keeps before after
  pub bytes : (new ≡ old) ⊎ (new ≡ kept old)

-- what asking for more bytes does
abbrev pub Fills : {E : Type 0} → Option (List ℕ) → Option (List ℕ) → Waiting → Waiting → Result Filled E → Type 0
Fills before after old new (Ok More) = Takes before after old new
Fills before after old new (Ok End) = TakesNothing before after old new × (0 < old.left) × IsAtEnd after
Fills before after old new (Ok Limit) = TakesNothing before after old new × (old.left ≡ 0)
Fills before after old new (Err fault) = TakesNothing before after old new
