-- What a private function says of rising documents. No public contract cites it.
use Rattle.std.specs.Prelude.{ℕ, ◌≤◌, ◌<◌, List, length, slice_index}

-- the documents before a place are below the bound, those from it on are not
pub record IsParted (docs : List ℕ) (at bound : ℕ) : Type 0 where
  pub within : at ≤ length docs
  pub before : (k : ℕ) → k < at → slice_index docs k < bound
  pub behind : (k : ℕ) → at ≤ k → k < length docs → bound ≤ slice_index docs k
