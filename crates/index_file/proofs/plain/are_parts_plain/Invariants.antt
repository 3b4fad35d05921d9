use Rattle.std.proofs.Common.{◌≤◌, ◌-◌, All, length, take}
use Rattle.index_file.specs.Private.Plain.{IsPlain}
use Rattle.index_file.proofs.plain.are_parts_plain.Given as goal

abbrev pub invariant-parts : goal.invariant-parts
invariant-parts l = record {
  within : l.at ≤ length l.bytes;
  plain : All IsPlain (take l.at l.bytes);
}

abbrev pub decreases-parts : goal.decreases-parts
decreases-parts l = length l.bytes - l.at
