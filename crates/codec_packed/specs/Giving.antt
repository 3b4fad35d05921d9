-- What a cursor still gives.
use Rattle.std.specs.Prelude.{ℕ, ◌≡◌, ◌+◌, ◌/◌, ◌<◌, ◌≤◌, List, [], ◌∷◌, length, drop}
use Rattle.jass_base.specs.Gaps.{gaps_from}
use Rattle.codec_packed.specs.Packing.{packed_gaps}
use Rattle.codec_packed.specs.declared.cursor.Cursor.{Cursor}
use Rattle.jass_base.specs.declared.limits.TheConstants.{MOST_DOCUMENTS}

-- rising documents below d, the first at least `least`
abbrev pub AreFrom : ℕ → ℕ → List ℕ → Type 0
AreFrom d least [] = Unit {0}
AreFrom d least (doc ∷ docs) = (least ≤ doc) × (doc < d) × AreFrom d (doc + 1) docs

-- the cursor still gives these documents of these bytes
pub record Gives (cursor : Cursor) (bytes docs : List ℕ) : Type 0 where
  pub left : length docs ≡ cursor.left
  pub spelled : drop cursor.at bytes ≡ packed_gaps (cursor.left / 128) (gaps_from cursor.least docs)
  pub rising : AreFrom MOST_DOCUMENTS cursor.least docs
