-- The rows that keep masks, and the table of the row of each page.
use Rattle.std.specs.Prelude.{◌≡◌, ℕ, ◌+◌, ◌/◌, ◌%◌, ◌<◌, ◌≤◌, ◌==◌, ◌⊎◌, List, [], length, map, count_by, slice_index, slice_index_or}
use Rattle.std.specs.List.{AllByRecursion, range_with_len}
use Rattle.accumulator_pages.specs.Adding.{page_count}
use Rattle.accumulator_pages.specs.Pages.{no_frame, HasTouched}
use Rattle.sharp_bounds.specs.Masks.{MasksView}

-- the mask of a document; 0 where its page has no row
abbrev pub mask_in : List ℕ → List (List ℕ) → ℕ → ℕ
mask_in table rows doc = slice_index (slice_index_or rows (slice_index table (doc / 256)) []) (doc % 256)

abbrev pub masks_of : ℕ → List ℕ → List (List ℕ) → List ℕ
masks_of docs table rows = map (mask_in table rows) (range_with_len 0 docs)

abbrev pub view_of : ℕ → ℕ → List ℕ → List (List ℕ) → MasksView
view_of docs frames table rows = record { frames = frames; masks = masks_of docs table rows }

-- a table with an entry for each page: none, or the number of a row of its own; there are no other rows
pub record AreRowsOf (frames : ℕ) (table : List ℕ) (rows : List (List ℕ)) : Type 0 where
  pub few : frames < no_frame
  pub within : length rows ≤ frames
  pub whole : AllByRecursion (λ row. length row ≡ 256) rows
  pub entries : (page : ℕ) → page < length table → (slice_index table page ≡ no_frame) ⊎ (slice_index table page < length rows)
  pub apart : (page other : ℕ) → page < length table → other < length table → slice_index table page < length rows → slice_index table page ≡ slice_index table other → page ≡ other
  pub count : length rows + count_by (λ entry. entry == no_frame) table ≡ length table

-- each page that has a row has a document with a mask
pub record MasksKept (docs frames : ℕ) (table : List ℕ) (rows : List (List ℕ)) : Type 0 where
  pub covers : length table ≡ page_count docs
  pub rows_of : AreRowsOf frames table rows
  pub marked : (page : ℕ) → page < length table → slice_index table page < length rows → HasTouched (masks_of docs table rows) page
