-- What a cursor over a payload still gives.
use Rattle.std.specs.Prelude.{ℕ, ◌≡◌, ◌<◌, List, ◌++◌, length, drop, replicate, All}
use Rattle.jass_base.specs.Gaps.{docs_from}
use Rattle.codec_simple8.specs.declared.cursor.Cursor.{Cursor}
use Rattle.codec_simple8.specs.Simple8.{spelled_words}
use Rattle.jass_base.specs.declared.limits.TheConstants.{MOST_DOCUMENTS}

-- The cursor still gives these documents of these bytes: their gaps are the gaps of 0 that it
-- holds, and then those of the words from its place on.
pub record Gives (cursor : Cursor) (bytes docs : List ℕ) : Type 0 where
  pub gaps : List ℕ
  pub docs_are : docs ≡ docs_from cursor.least (replicate cursor.zeros 0 ++ gaps)
  pub words : drop cursor.at bytes ≡ spelled_words gaps
  pub left : cursor.left ≡ length gaps
  pub below : All (λ doc. doc < MOST_DOCUMENTS) docs
