-- A width of impacts is a fact, so that a struct can keep it.
use Rattle.weights.specs.declared.quantizing.Bits.{Bits}
use Rattle.weights.specs.declared.quantizing.Bits.TheVariants.{Raw, Of}
use Rattle.weights.specs.Quantizing.{IsImpactWidth}
use Rattle.std.specs.Coded.{×_prop, Unit-prop, le_prop}

pub IsImpactWidth-prop : (bits : Bits) → IsProp (IsImpactWidth bits)
IsImpactWidth-prop Raw = Unit-prop
IsImpactWidth-prop (Of bits) = ×_prop le_prop le_prop
