-- What a cursor of a varbyte payload still gives.
use Rattle.std.specs.Prelude.{ℕ, ◌≡◌, ◌+◌, ◌≤◌, List, length, drop, sum}
use Rattle.jass_base.specs.Gaps.{docs_from, spelled_gaps}
use Rattle.plain_codecs.specs.declared.varbyte.cursor.Cursor.{Cursor}
use Rattle.jass_base.specs.declared.limits.TheConstants.{MOST_DOCUMENTS}

-- the cursor still gives these documents of these bytes: their gaps stand from its place on
pub record Gives (cursor : Cursor) (bytes docs : List ℕ) : Type 0 where
  pub gaps : List ℕ
  pub docs_are : docs ≡ docs_from cursor.least gaps
  pub left : cursor.left ≡ length gaps
  pub within : cursor.at ≤ length bytes
  pub spelled : drop cursor.at bytes ≡ spelled_gaps gaps
  pub room : cursor.least + sum gaps + length gaps ≤ MOST_DOCUMENTS
