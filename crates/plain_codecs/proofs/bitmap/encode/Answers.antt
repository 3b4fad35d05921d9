use Rattle.plain_codecs.proofs.Bytes.{none_built, one_built}
use Rattle.plain_codecs.proofs.bitmap.encode.Goals as goal

pub loop-place-init : goal.loop-place-init
loop-place-init c = none_built c.args.docs.now c.args.out.now

pub loop-place-preserved : goal.loop-place-preserved
loop-place-preserved c =
    one_built c.args.docs.now c.loop-place.place c.loop-place.first c.byte_at-byte.result.1 c.byte_at-byte.result.0 c.args.out.now c.loop-place.out c.push.new.self
    c.loop-place.invariant c.byte_at-byte.ensures.byte c.byte_at-byte.ensures.next c.in-Ok.ensures.ok
