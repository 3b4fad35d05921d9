use Rattle.std.proofs.Common.{ap, map, ◌∙◌}
use Rattle.index_write.specs.Chosen.{head_data}
use Rattle.index_write.proofs.Entries.{heads_there}
use Rattle.index_write.proofs.writer.heads_left.Goals as goal

pub returns : goal.returns
returns c =
    let t = c.index-entries-entries.result in
    ap (map head_data) c.as_slice.ensures ∙ heads_there c.args.entries.now c.args.left t c.requires.some c.requires.within c.index-entries-entries.is
