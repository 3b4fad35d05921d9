use Rattle.std.proofs.Common.{◌≡◌, ◌-◌, ◌≤◌, length, map}
use Rattle.index_version1.proofs.Below.{read_heads, with_heads}
use Rattle.index_version1.specs.Private.Tables.{head_data}
use Rattle.index_version1.proofs.head.read_heads.Given as goal

abbrev pub invariant-heads : goal.invariant-heads
invariant-heads l = record {
  read : read_heads l.bytes l.docs l.count 65536 l.from ≡ with_heads (map head_data l.heads) (read_heads l.bytes l.docs (l.count - l.counter) l.above l.at);
  at : l.at ≤ length l.bytes;
}
