-- Heads that stand one after the other in bytes.
use Rattle.shared_lemmas.proofs.Common.{◌≡◌, ◌+◌, ◌*◌, ℕ, List, [], ◌∷◌, ◌++◌, length, arith}
use Rattle.std.proofs.lemmas.List.FromFn.{length-map-range_with_len, map-range_with_len_more}
use Rattle.index_file.proofs.Below.{HeadData}
use Rattle.index_layout.specs.Reading.{head_in}
use Rattle.index_file.specs.Parts.{heads_from}

abbrev one_from : List ℕ → ℕ → ℕ → HeadData
one_from bytes at s = head_in bytes (at + 11 * s)

-- one more
pub heads_more : (bytes : List ℕ) (k at : ℕ) → heads_from bytes (k + 1) at ≡ heads_from bytes k at ++ head_in bytes (at + 11 * k) ∷ []
heads_more bytes k at = map-range_with_len_more (one_from bytes at) 0 k k (omega arith)

-- how many there are
pub heads_length : (bytes : List ℕ) (k at : ℕ) → length (heads_from bytes k at) ≡ k
heads_length bytes k at = length-map-range_with_len (one_from bytes at) 0 k
