use Rattle.std.proofs.Common.{◌≤◌, ◌+◌, ◌-◌, length, ◌∙◌, arith}
use Rattle.segment_codecs.specs.Giving.{Gives}
use Rattle.segment_codecs.proofs.Blocks.{block_read, block_room, length_put}
use Rattle.segment_codecs.proofs.handing.read_docs.Goals as goal

pub parts-preserved : goal.parts-preserved
parts-preserved c =
    let n = c.next_block-given.result in
    let filled = c.parts.filled in
    let bytes = c.args.bytes.now in
    let long : n ≤ length c.next_block-given.new.out = omega (arith, c.next_block-given.ensures.most, c.next_block-given.array_long) in
    let docs = c.requires.stands.0 in
    let many = c.requires.stands.2 in
    let same = c.parts.invariant.long in
    let room = block_room (Gives c.parts.cursor bytes) filled n docs c.parts.out c.next_block-given.new.out (c.parts.invariant.read docs c.requires.stands.1 many) long c.next_block-given.ensures.block (omega (arith, many, same, c.requires.room)) in
    record {
      read = λ docs gives many. block_read (Gives c.parts.cursor bytes) (Gives c.next_block-given.new.self bytes) filled n docs c.parts.out c.next_block-given.new.out c.copy_from_slice.new.self _
          (c.parts.invariant.read docs gives many) c.copy_from_slice.ensures.after long c.next_block-given.ensures.block c.next_block-given.ensures.rest;
      long = length_put filled (filled + n - filled) n c.parts.out c.next_block-given.new.out c.copy_from_slice.new.self (omega arith) room c.copy_from_slice.ensures.after long ∙ c.parts.invariant.long;
    }
