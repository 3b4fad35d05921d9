use Rattle.std.proofs.Common.{sym}
use Rattle.codec_simple8.proofs.GapLists.{later_gap}
use Rattle.codec_simple8.proofs.encoding.later_gap.Goals as goal

pub returns-clause-gap : goal.returns-clause-gap
returns-clause-gap c = sym (later_gap 0 c.args.docs.now c.args.at c.requires.later c.requires.within)
