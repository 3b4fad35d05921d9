-- What a cursor of a bitmap still gives.
use Rattle.std.specs.Prelude.{ℕ, ◌≡◌, ◌*◌, ◌+◌, ◌≤◌, List, length, drop}
use Rattle.lane_kernels.specs.Bitmap.{set_bits}
use Rattle.plain_codecs.specs.declared.bitmap.cursor.Cursor.{Cursor}
use Rattle.jass_base.specs.declared.limits.TheConstants.{MOST_DOCUMENTS}

-- the cursor still gives these documents of these bytes: the set bits from its place on
pub record Gives (cursor : Cursor) (bytes docs : List ℕ) : Type 0 where
  pub docs_are : docs ≡ set_bits (8 * cursor.at) (drop cursor.at bytes)
  pub within : cursor.at ≤ length bytes
  pub room : 8 * length bytes ≤ MOST_DOCUMENTS + 7
