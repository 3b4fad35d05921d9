use Rattle.codec_packed.proofs.Payloads.{payloads_again, payloads_only}
use Rattle.codec_packed.proofs.laws.payloads_are_read.Goals as goal

pub returns-clause-found : goal.returns-clause-found
returns-clause-found c = payloads_again c.blocks_keep_their_gaps.ensures c.tails_are_read.ensures

pub returns-clause-only : goal.returns-clause-only
returns-clause-only c = payloads_only c.blocks_keep_their_gaps.ensures c.tails_are_read.ensures
