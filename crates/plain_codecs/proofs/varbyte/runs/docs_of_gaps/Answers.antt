use Rattle.std.proofs.Common.{◌≤◌, length, arith}
use Rattle.plain_codecs.proofs.Docs.{next_gap, room_for, more_made}
use Rattle.plain_codecs.proofs.varbyte.runs.docs_of_gaps.Goals as goal

pub overflow_add-doc : goal.overflow_add-doc
overflow_add-doc c =
    let here = next_gap c.loop-place.place c.args.out.now c.loop-place.out c.loop-place.invariant.rest in
    let long : c.args.count ≤ length c.args.out.now = omega (arith, c.requires.block, c.told-out) in
    record { fits = omega (arith, here, c.requires.room, c.loop-place.invariant.next_is, room_for c.args.count c.loop-place.place c.args.out.now c.loop-place-test.true long) }

pub overflow_add-next : goal.overflow_add-next
overflow_add-next c =
    let here = next_gap c.loop-place.place c.args.out.now c.loop-place.out c.loop-place.invariant.rest in
    let long : c.args.count ≤ length c.args.out.now = omega (arith, c.requires.block, c.told-out) in
    record { fits = omega (arith, here, c.requires.room, c.loop-place.invariant.next_is, room_for c.args.count c.loop-place.place c.args.out.now c.loop-place-test.true long) }

pub loop-place-preserved : goal.loop-place-preserved
loop-place-preserved c =
    more_made c.docs_of_gaps.ensures.parts c.args.least c.loop-place.place c.loop-place.next c.args.out.now c.loop-place.out c.loop-place.invariant
    (omega (arith, c.requires.block, c.told-out, c.loop-place-test.true))
