-- What a cursor over a payload gives in one step.
use Rattle.std.specs.Prelude.{ℕ, ◌≡◌, ◌-◌, ◌<◌, ◌≤◌, List, ◌++◌, take, drop}
use Rattle.codec_simple8.specs.declared.cursor.Cursor.{Cursor}
use Rattle.codec_simple8.specs.Cursor.{Gives}

-- What is said of a cursor that wrote documents behind the first `filled` of a block:
-- those that it gave, it gives no more, and gaps of 0 are held only where the block is full.
pub record Moved (old new : Cursor) (bytes : List ℕ) (filled result : ℕ) (before after : List ℕ) : Type 0 where
  pub from : filled ≤ result
  pub most : result ≤ 128
  pub docs : (docs : List ℕ) → Gives old bytes docs → take result after ≡ take filled before ++ take (result - filled) docs
  pub rest : (docs : List ℕ) → Gives old bytes docs → Gives new bytes (drop (result - filled) docs)
  pub zeros : result < 128 → new.zeros ≡ 0
