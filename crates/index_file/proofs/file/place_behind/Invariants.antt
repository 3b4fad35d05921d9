use Rattle.std.proofs.Common.{◌≡◌, ◌+◌, ◌*◌, ◌^◌, ◌<◌, drop, min}
use Rattle.index_file.specs.Private.Payloads.{payload_place}
use Rattle.index_file.proofs.file.place_behind.Given as goal

abbrev pub invariant-heads : goal.invariant-heads
invariant-heads l = record {
  place : l.place ≡ payload_place (drop l.from l.heads) l.first (min l.count l.i);
  few : l.place < 2 ^ 32 * (l.i + 1);
}
