-- The pages of frames, and where their links end.
use Rattle.std.specs.Prelude.{ℕ, List, slice_index_or}
use Rattle.frame_pool.specs.Frames.{Frame, blank}

-- the page of a frame
abbrev pub page_of : List Frame → ℕ → ℕ
page_of frames f = (slice_index_or frames f blank).page

-- the number that is linked behind the last frame of a list
abbrev pub no_frame : ℕ
no_frame = 4294967295
