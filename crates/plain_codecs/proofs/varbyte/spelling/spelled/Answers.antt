use Rattle.std.proofs.Common.{ap, take, ◌∙◌}
use Rattle.plain_codecs.proofs.ShortSpelling.{spelled_begins}
use Rattle.plain_codecs.proofs.varbyte.spelling.spelled.Goals as goal

pub returns-clause-begin : goal.returns-clause-begin
returns-clause-begin c = ap (take c.args.size) c.to_le_bytes.ensures ∙ spelled_begins c.args.gap c.args.size c.requires.small c.requires.size
