use Rattle.std.proofs.Common.{◌≡◌, drop}
use Rattle.jass_base.specs.Private.Decimal.{value_after}
use Rattle.jass_base.proofs.decimal.value_of.Given as goal

abbrev pub invariant-loop-byte : goal.invariant-loop-byte
invariant-loop-byte l = value_after l.value (drop l.byte-index l.bytes) ≡ value_after 0 l.bytes
