use Rattle.std.proofs.Common.{◌+◌, ◌∙◌, ap, map}
use Rattle.index_write.specs.Streaming.{entry_data}
use Rattle.index_write.proofs.Joining.{entries_first}
use Rattle.index_write.proofs.bytes.first_of.Goals as goal

pub returns-in-Ok-clause-bytes : goal.returns-in-Ok-clause-bytes
returns-in-Ok-clause-bytes c =
    let len = c.front_len.result + c.args.payloads in
    c.in-Ok.ensures
    ∙ entries_first c.args.names.now (map entry_data c.args.entries.now) len c.args.totals.now (ap (λ p. c.front_len.result + p) c.requires.payloads ∙ c.front_len.ensures.file) c.requires.totals
