use Rattle.std.proofs.Common.{◌≡◌, ◌++◌, length, take, map}
use Rattle.index_model.specs.Views.{term_data}
use Rattle.index_write.specs.Chosen.{head_data}
use Rattle.index_write.specs.Private.Table.{table_of}
use Rattle.index_write.proofs.head.push_all_heads.Given as goal

abbrev pub invariant-loop-term : goal.invariant-loop-term
invariant-loop-term l = map head_data l.heads ≡ map head_data l.fn.heads ++ table_of (length l.index.names) (map term_data (take l.term-index l.index.terms))
