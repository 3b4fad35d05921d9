use Rattle.std.proofs.Common.{◌≡◌, ◌++◌, map, take}
use Rattle.index_import.proofs.Below.{chosen_heads, chosen_payloads, head_data}
use Rattle.index_import.proofs.spelling.spell_segments.Given as goal

abbrev pub invariant-loop-index : goal.invariant-loop-index
invariant-loop-index l = record {
  heads : map head_data l.heads ≡ chosen_heads l.docs (take l.index l.segments);
  payloads : l.payloads ≡ l.fn.payloads ++ chosen_payloads l.docs (take l.index l.segments);
}
