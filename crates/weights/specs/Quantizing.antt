-- Impacts: the weights of a whole collection in the whole numbers of a few bits, by uniform quantization
-- (Anh, de Kretser and Moffat, SIGIR 2001; Lin and Trotman, "Anytime Ranking for Impact-Ordered Indexes", ICTIR 2015).
use Rattle.std.specs.Prelude.{ℕ, ◌+◌, ◌-◌, ◌*◌, ◌/◌, ◌^◌, ◌≤◌, ◌==◌, min, max, List, fold, if◌then◌else◌}
use Rattle.weights.specs.declared.quantizing.Bits.{Bits}
use Rattle.weights.specs.declared.quantizing.Bits.TheVariants.{Raw, Of}
use Rattle.weights.specs.declared.quantizing.Range.{Range}
use Rattle.weights.specs.declared.impact_limit.TheConstants.{GREATEST_IMPACT}

-- the range before its first weight, which then becomes both of its ends
abbrev pub empty_range : Range
empty_range = record { least = 2 ^ 64 - 1; greatest = 0 }

-- the range with one more weight in it
abbrev pub widened : Range → ℕ → Range
widened range w = record { least = min range.least w; greatest = max range.greatest w }

-- the least and the greatest of some weights
abbrev pub range_of : List ℕ → Range
range_of weights = fold widened empty_range weights

-- raw impacts, or impacts of 1 to 16 bits
abbrev pub IsImpactWidth : Bits → Type 0
IsImpactWidth Raw = Unit {0}
IsImpactWidth (Of b) = (1 ≤ b) × (b ≤ 16)

-- the range holds the weight, and ends at 2 ^ 40 at most
pub record Holds (range : Range) (w : ℕ) : Type 0 where
  pub from_least : range.least ≤ w
  pub to_greatest : w ≤ range.greatest
  pub limit : range.greatest ≤ 2 ^ 40

-- what the bits ask of a range and a weight: nothing where impacts are raw
abbrev pub IsInRange : Bits → Range → ℕ → Type 0
IsInRange Raw range w = Unit {0}
IsInRange (Of b) range w = Holds range w

-- the impact of a weight: cut off at 65,535 if raw, else its place in the range, from 1 for the least to 2 ^ b - 1 for the greatest
abbrev pub impact_of : Bits → Range → ℕ → ℕ
impact_of Raw range w = min w GREATEST_IMPACT
impact_of (Of b) range w =
    if range.least == range.greatest then 1 else 1 + (w - range.least) * (2 ^ b - 2) / (range.greatest - range.least)
