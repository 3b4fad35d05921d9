use Rattle.std.proofs.Common.{◌≡◌, ◌++◌, take}
use Rattle.index_layout.specs.Layout.{names_bytes}
use Rattle.index_write.proofs.front.put_names.Given as goal

abbrev pub invariant-loop-name : goal.invariant-loop-name
invariant-loop-name l = l.out ≡ l.fn.out ++ names_bytes (take l.name-index l.names)
