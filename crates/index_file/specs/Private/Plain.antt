-- Bytes that are visible characters of ASCII.
use Rattle.std.specs.Prelude.{ℕ, ◌<◌}

abbrev pub IsPlain : ℕ → Type 0
IsPlain byte = (32 < byte) × (byte < 127)
