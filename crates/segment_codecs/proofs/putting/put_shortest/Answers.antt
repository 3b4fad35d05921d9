-- The varints of a few gaps are the choice.
use Rattle.std.proofs.Common.{arith}
use Rattle.segment_codecs.specs.Codecs.{payload_of}
use Rattle.segment_codecs.specs.declared.codec.Codec.TheVariants.{Varbyte}
use Rattle.segment_codecs.proofs.Sizes.{grown}
use Rattle.segment_codecs.proofs.putting.put_shortest.Goals as goal

pub is_least-requires-clause-size : goal.is_least-requires-clause-size
is_least-requires-clause-size c =
    let put = grown c.args.out.now c.put_few.new.out (payload_of Varbyte c.args.d c.args.docs.now) c.in_ok-put_few.ensures.ok in
    omega (arith, put, c.len.ensures, c.len-before.ensures)
