-- What is still handed out of a file's segment.
use Rattle.std.specs.Prelude.{ℕ, ◌≡◌, ◌+◌, ◌*◌, ◌≤◌, List, length, slice_range}
use Rattle.jass_base.specs.declared.limits.TheConstants.{MOST_DOCUMENTS}
use Rattle.lane_kernels.specs.Bitmap.{set_bits}
use Rattle.index_layout.specs.View.{FileView, view_payloads}
use Rattle.index_file.specs.Giving.{Gives}
use Rattle.index_file.specs.declared.handing.Handing.{Handing}
use Rattle.index_file.specs.declared.handing.Handing.TheVariants.{Bitmap, Blocks}

-- so many payload bytes from a place on are the bitmap of these documents
pub record IsBitmapAt (file : FileView) (from size count : ℕ) (docs : List ℕ) : Type 0 where
  pub within : from + size ≤ length (view_payloads file)
  pub few : 8 * size ≤ MOST_DOCUMENTS
  pub set : set_bits 0 (slice_range (view_payloads file) from (from + size)) ≡ docs
  pub counted : count ≡ length docs

-- these documents are still handed out: those of a bitmap at once, or those that a cursor still gives
abbrev pub HandsOn : FileView → Handing → List ℕ → Type 0
HandsOn file (Bitmap from size count) docs = IsBitmapAt file from size count docs
HandsOn file (Blocks cursor) docs = Gives file cursor docs
