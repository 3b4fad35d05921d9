use Rattle.std.proofs.Common.{arith, map}
use Rattle.index_write.specs.Streaming.{entry_data}
use Rattle.index_write.proofs.Bounds.{front_size}
use Rattle.index_write.proofs.lengths.front_len.Goals as goal

pub returns-clause-len : goal.returns-clause-len
returns-clause-len c =
    omega (arith, c.names_len.ensures.len, c.entries_len.ensures, front_size c.args.names.now (map entry_data c.args.entries.now))
