use Rattle.plain_codecs.proofs.Handing.{Handed}
use Rattle.plain_codecs.proofs.varbyte.handing.hand_out.Given as goal

abbrev pub invariant-docs : goal.invariant-docs
invariant-docs l = Handed l.d l.count l.bytes l.fn.out l.out l.at l.least l.i
