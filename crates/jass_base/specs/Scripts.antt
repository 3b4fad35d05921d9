-- Which calls of an outside in memory fail. This project's.
use Rattle.std.specs.Prelude.{ℕ, ◌+◌, ◌-◌, ◌^◌, min, List, Contains}

-- the calls that fail, counted from 0, and how many calls there were, up to the last value of a counter
pub record Script : Type 0 where
  pub bad : List ℕ
  pub calls : ℕ

-- no call was made yet
abbrev pub uncalled : List ℕ → Script
uncalled bad = record { bad = bad; calls = 0 }

-- one call more was made
abbrev pub called : Script → Script
called s = record { bad = s.bad; calls = min (s.calls + 1) (2 ^ 64 - 1) }

-- the call that comes next is named as one that fails
abbrev pub FailsNext : Script → Type 0
FailsNext s = Contains s.bad s.calls
