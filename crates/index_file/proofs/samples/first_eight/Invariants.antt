use Rattle.std.proofs.Common.{◌≡◌, ◌+◌, ◌*◌, ◌-◌, ◌^◌, ◌<◌, drop}
use Rattle.index_file.specs.Private.Samples.{leading}
use Rattle.index_file.proofs.samples.first_eight.Given as goal

abbrev pub invariant-bytes : goal.invariant-bytes
invariant-bytes l = record {
  read : leading 8 l.text ≡ l.number * 256 ^ (8 - l.i) + leading (8 - l.i) (drop l.i l.text);
  small : l.number < 256 ^ l.i;
}
