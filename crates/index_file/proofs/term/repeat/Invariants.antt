use Rattle.std.proofs.Common.{◌≡◌, ◌++◌, take, drop}
use Rattle.index_file.proofs.term.repeat.Given as goal

abbrev pub invariant-bytes : goal.invariant-bytes
invariant-bytes l = l.text ≡ l.fn.text ++ take l.i (drop l.from l.fn.text)
