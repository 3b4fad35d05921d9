-- Words have a word's bytes at least.
use Rattle.std.proofs.Common.{arith}
use Rattle.segment_codecs.proofs.Sizes.{few_gaps, simple8_some}
use Rattle.segment_codecs.proofs.putting.is_least.Goals as goal

pub returns-then-size-le-WORD : goal.returns-then-size-le-WORD
returns-then-size-le-WORD c = λ low. few_gaps c.args.d c.args.docs.now
    (omega (arith, c.requires.few))
    (omega (arith, c.if-length-size.false, c.length.ensures, c.requires.size))
    (omega (arith, c.if-size-le-WORD.true, c.requires.size, simple8_some c.args.d c.args.docs.now c.requires.docs))
