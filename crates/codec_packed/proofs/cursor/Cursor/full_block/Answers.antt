use Rattle.std.proofs.Common.{arith}
use Rattle.codec_packed.proofs.Cursors.{inside, narrow_here, long_here, room, given_is, next_small, gives_more}
use Rattle.codec_packed.proofs.cursor.Cursor.full_block.Goals as goal

pub bounds-bytes-self : goal.bounds-bytes-self
bounds-bytes-self c = inside c.blocks_keep_their_gaps.ensures _ _ _ _ c.requires.stands.0 c.requires.stands.1 c.requires.full

pub overflow_add-start : goal.overflow_add-start
overflow_add-start c = omega (arith, long_here c.blocks_keep_their_gaps.ensures _ _ _ c.args.bytes.now c.requires.stands.0 c.requires.stands.1 c.requires.full)

pub overflow_add-end : goal.overflow_add-end
overflow_add-end c =
    omega (arith, c.from.ensures, long_here c.blocks_keep_their_gaps.ensures _ _ _ c.args.bytes.now c.requires.stands.0 c.requires.stands.1 c.requires.full)

pub slice_bounds-unpack128-end : goal.slice_bounds-unpack128-end
slice_bounds-unpack128-end c =
    omega (arith, c.from.ensures, long_here c.blocks_keep_their_gaps.ensures _ _ _ c.args.bytes.now c.requires.stands.0 c.requires.stands.1 c.requires.full)

pub unpack128-requires-clause-width : goal.unpack128-requires-clause-width
unpack128-requires-clause-width c = narrow_here c.blocks_keep_their_gaps.ensures _ _ _ c.args.bytes.now c.requires.stands.0 c.requires.stands.1 c.requires.full

pub running128-requires : goal.running128-requires
running128-requires c = room c.blocks_keep_their_gaps.ensures _ _ _ c.args.bytes.now c.requires.stands.0 c.requires.stands.1 c.requires.full _ c.from.ensures c.unpack128.new.out c.unpack128.ensures

pub overflow_add-self : goal.overflow_add-self
overflow_add-self c =
    let small = next_small c.blocks_keep_their_gaps.ensures _ _ _ c.args.bytes.now c.requires.stands.0 c.requires.stands.1 c.requires.full _ c.from.ensures c.unpack128.new.out c.unpack128.ensures c.running128.new.gaps c.running128.ensures.numbers in
    omega (arith, small)

pub returns-clause-block : goal.returns-clause-block
returns-clause-block c = λ docs gives. given_is c.blocks_keep_their_gaps.ensures _ _ _ c.args.bytes.now docs gives c.requires.full _ c.from.ensures c.unpack128.new.out c.unpack128.ensures c.running128.new.gaps c.running128.ensures.numbers

pub returns-clause-rest : goal.returns-clause-rest
returns-clause-rest c = λ docs gives. gives_more c.blocks_keep_their_gaps.ensures _ _ _ c.args.bytes.now docs gives c.requires.full _ c.from.ensures c.unpack128.new.out c.unpack128.ensures c.running128.new.gaps c.running128.ensures.numbers
