use Rattle.std.proofs.Common.{◌≡◌, ◌+◌, length, drop}
use Rattle.index_layout.specs.Layout.{names_bytes}
use Rattle.index_write.proofs.lengths.names_len.Given as goal

abbrev pub invariant-loop-name : goal.invariant-loop-name
invariant-loop-name l = l.len + length (names_bytes (drop l.name-index l.names)) ≡ length (names_bytes l.names)
