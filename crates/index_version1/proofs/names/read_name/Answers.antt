use Rattle.index_version1.proofs.Sequences.{not_text}
use Rattle.index_version1.proofs.names.read_name.Goals as goal

pub returns-in_default : goal.returns-in_default
returns-in_default c = not_text c.refused.result c.args.bytes.now c.args.at c.refused.ensures c.in_default.ensures.cases.0
