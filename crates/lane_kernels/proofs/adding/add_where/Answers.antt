use Rattle.std.proofs.Common.{◌+◌, ◌*◌, ◌≡◌, subst, arith}
use Rattle.lane_kernels.proofs.AddedSlots.{AddedBelow, fits_here, nears_room, four_more, low_marks, high_marks, nears_fit, all_added, all_near}
use Rattle.lane_kernels.proofs.adding.add_where.Goals as goal
use Rattle.lane_kernels.proofs.adding.add_where.Goals.{After-add_four-half}

-- after the low half of a byte
half : (c : After-add_four-half)
    → AddedBelow c.args.w c.args.from c.args.bits.now c.args.slots.now c.add_four-half.new.slots c.add_four-half.result (8 * c.loop-at.at + 4)
half c =
    four_more c.args.w c.args.from c.args.bits.now c.args.slots.now c.loop-at.slots c.loop-at.nears (8 * c.loop-at.at) c.loop-at.invariant
    c.marks_of.result.0 (low_marks c.args.bits.now c.marks_of.result.0 c.loop-at.at c.marks_of.ensures.low)
    c.add_four-half.new.slots c.add_four-half.ensures.here c.add_four-half.ensures.length c.add_four-half.ensures.others
    c.add_four-half.result c.add_four-half.ensures.lanes c.add_four-half.ensures.nears

pub add_four-half-requires-clause-nears : goal.add_four-half-requires-clause-nears
add_four-half-requires-clause-nears c =
    nears_room c.args.w c.args.from c.args.bits.now c.args.slots.now c.loop-at.slots c.loop-at.nears (8 * c.loop-at.at) c.loop-at.invariant
    c.marks_of.result.0 (low_marks c.args.bits.now c.marks_of.result.0 c.loop-at.at c.marks_of.ensures.low) (omega arith)

pub add_four-nears-requires-clause-fits : goal.add_four-nears-requires-clause-fits
add_four-nears-requires-clause-fits c =
    fits_here c.args.w c.args.from c.args.bits.now c.args.slots.now c.add_four-half.new.slots c.add_four-half.result (8 * c.loop-at.at + 4)
    (half (goal.at.add_four-nears-requires-clause-fits c).After-add_four-half) c.marks_of.result.1 (high_marks c.args.bits.now c.marks_of.result.1 c.loop-at.at c.marks_of.ensures.high) (omega arith) c.requires.fits

pub add_four-nears-requires-clause-nears : goal.add_four-nears-requires-clause-nears
add_four-nears-requires-clause-nears c =
    nears_room c.args.w c.args.from c.args.bits.now c.args.slots.now c.add_four-half.new.slots c.add_four-half.result (8 * c.loop-at.at + 4)
    (half (goal.at.add_four-nears-requires-clause-nears c).After-add_four-half) c.marks_of.result.1 (high_marks c.args.bits.now c.marks_of.result.1 c.loop-at.at c.marks_of.ensures.high) (omega arith)

pub loop-at-preserved : goal.loop-at-preserved
loop-at-preserved c =
    let next : 8 * c.loop-at.at + 4 + 4 ≡ 8 * (c.loop-at.at + 1) = omega arith in
    subst (AddedBelow c.args.w c.args.from c.args.bits.now c.args.slots.now c.add_four-nears.new.slots c.add_four-nears.result) next
    (four_more c.args.w c.args.from c.args.bits.now c.args.slots.now c.add_four-half.new.slots c.add_four-half.result (8 * c.loop-at.at + 4)
    (half (goal.at.loop-at-preserved c).After-add_four-half) c.marks_of.result.1 (high_marks c.args.bits.now c.marks_of.result.1 c.loop-at.at c.marks_of.ensures.high)
    c.add_four-nears.new.slots c.add_four-nears.ensures.here c.add_four-nears.ensures.length c.add_four-nears.ensures.others
    c.add_four-nears.result c.add_four-nears.ensures.lanes c.add_four-nears.ensures.nears)

pub overflow_add-result : goal.overflow_add-result
overflow_add-result c =
    nears_fit c.args.w c.args.from c.args.bits.now c.args.slots.now c.loop-at.slots c.loop-at.nears (8 * c.loop-at.at) c.loop-at.invariant
    (omega arith) (omega arith)

pub returns-clause-slots : goal.returns-clause-slots
returns-clause-slots c =
    all_added c.args.w c.args.from c.args.bits.now c.args.slots.now c.loop-at.slots c.loop-at.nears (8 * c.loop-at.at) c.loop-at.invariant
    (omega arith) (omega arith)

pub returns-clause-near : goal.returns-clause-near
returns-clause-near c =
    all_near c.args.w c.args.from c.args.bits.now c.args.slots.now c.loop-at.slots c.loop-at.nears (8 * c.loop-at.at) c.loop-at.invariant
    (omega arith) (omega arith)
