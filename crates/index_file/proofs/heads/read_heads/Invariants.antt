use Rattle.std.proofs.Common.{◌≡◌, ◌+◌, ◌-◌, ◌*◌, ◌^◌, ◌≤◌, ◌++◌, List, length, All}
use Rattle.index_file.proofs.Below.{read_heads, HeadData, with_heads}
use Rattle.index_file.specs.Sums.{AreSums}
use Rattle.index_file.specs.Parts.{IsCounted, heads_from}
use Rattle.index_file.proofs.heads.read_heads.Given as goal

abbrev pub invariant-heads : goal.invariant-heads
invariant-heads l = record {
  read : read_heads l.bytes l.docs l.count 65536 l.from ≡ with_heads (heads_from l.bytes l.counter l.from) (read_heads l.bytes l.docs (l.count - l.counter) l.above l.at);
  counted : All (IsCounted l.docs) (heads_from l.bytes l.counter l.from);
  sums : (heads : List HeadData) → AreSums l.fn.sums heads → AreSums l.total (heads ++ heads_from l.bytes l.counter l.from);
  small : l.total.postings + 2 ^ 26 * l.from ≤ l.fn.sums.postings + 2 ^ 26 * l.at;
  place : l.at ≡ l.from + 11 * l.counter;
  at : l.at ≤ length l.bytes;
}
