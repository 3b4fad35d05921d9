use Rattle.ciff_write.proofs.Fields.{posting_long}
use Rattle.ciff_write.proofs.lengths.posting_len.Goals as goal

pub returns-clause-len : goal.returns-clause-len
returns-clause-len c = posting_long c.args.gap c.args.tf c.from.result c.from-2.result c.if-gap-eq0.false c.if-gap-ge2097152.false c.if-tf-eq0.false c.if-tf-ge128.false c.from.ensures c.from-2.ensures
