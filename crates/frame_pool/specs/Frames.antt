-- Frames.
use Rattle.std.specs.Prelude.{ℕ, List, replicate}

-- a frame: the scores and heap places of the 256 documents of a page, the page, and the link to the next frame
pub record Frame : Type 0 where
  pub scores : List ℕ
  pub places : List ℕ
  pub page : ℕ
  pub next : ℕ

-- the frame of a page without scores
abbrev pub cleared_frame : ℕ → ℕ → Frame
cleared_frame page next = record { scores = replicate 256 0; places = replicate 256 0; page = page; next = next }

-- a frame of a new pool
abbrev pub free_frame : ℕ → Frame
free_frame next = cleared_frame 0 next

-- what stands past the end of the table
abbrev pub blank : Frame
blank = free_frame 0
