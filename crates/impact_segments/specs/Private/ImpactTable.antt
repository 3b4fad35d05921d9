-- The impacts of a range's weights as a table.
use Rattle.std.specs.Prelude.{ℕ, ◌≡◌, ◌+◌, ◌<◌, ◌≤◌, List, length, slice_index_or}
use Rattle.weights.specs.declared.quantizing.Bits.{Bits}
use Rattle.weights.specs.declared.quantizing.Bits.TheVariants.{Of}
use Rattle.weights.specs.declared.quantizing.Range.{Range}
use Rattle.weights.specs.Quantizing.{impact_of}

-- the impacts of the first weights of a range in their order, from the least
pub record AreImpacts (bits : Bits) (range : Range) (impacts : List ℕ) : Type 0 where
  pub exact : (i d : ℕ) → i < length impacts → slice_index_or impacts i d ≡ impact_of bits range (range.least + i)
  pub positive : (i d : ℕ) → i < length impacts → 1 ≤ slice_index_or impacts i d
  pub within : (i : ℕ) → i < length impacts → range.least + i ≤ range.greatest

-- the same by the number of bits and the ends of the range
abbrev pub AreImpactsOf : ℕ → ℕ → ℕ → List ℕ → Type 0
AreImpactsOf bits least greatest impacts = AreImpacts (Of bits) (record { least = least; greatest = greatest }) impacts
