use Rattle.shared_lemmas.proofs.Common.{ap, sym, arith, not}
use Rattle.plain_codecs.proofs.Bitmaps.{unused_clear, unused_test}
use Rattle.plain_codecs.proofs.bitmap.checking.reaches.Goals as goal

pub returns-then-used-eq0 : goal.returns-then-used-eq0
returns-then-used-eq0 c = ap not (sym (unused_clear c.set_bits_rise.ensures.members c.args.d c.args.bytes.now c.requires.size (λ used. absurd (used c.if-used-eq0.true))))

pub returns : goal.returns
returns c = ap not (unused_test c.set_bits_rise.ensures.members c.args.d c.args.bytes.now c.requires.some c.requires.size (λ k. omega (arith, c.type_inv.bytes k)) c.if-used-eq0.false)
