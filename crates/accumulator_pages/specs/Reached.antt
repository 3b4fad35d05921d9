-- Documents noted in a room of fixed size.
use Rattle.std.specs.Prelude.{ℕ, List}

-- the documents noted so far, and how many there is room for
pub record ReachedView : Type 0 where
  pub docs : List ℕ
  pub room : ℕ
