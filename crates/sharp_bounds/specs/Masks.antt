-- The terms that each document was seen in, as bits. This project's.
use Rattle.std.specs.Prelude.{◌≡◌, ℕ, ◌<◌, ◌^◌, false, List}
use Rattle.std.specs.Int.Bits.{bit_or}
use Rattle.accumulator_pages.specs.Adding.{page_is_touched, touched_pages}

-- how many mask frames there are, and the mask of each document
pub record MasksView : Type 0 where
  pub frames : ℕ
  pub masks : List ℕ

-- a mask with the bit of a place
abbrev pub with_place : ℕ → ℕ → ℕ
with_place mask place = bit_or mask (2 ^ place)

-- a document of the page has a mask that isn't 0, so that the page has a frame, or fewer pages than frames have such a document
abbrev pub HasMaskFrame : MasksView → ℕ → Type 0
HasMaskFrame view page = page_is_touched view.masks page ≡ false → touched_pages view.masks < view.frames
