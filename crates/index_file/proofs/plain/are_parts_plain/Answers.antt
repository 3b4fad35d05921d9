use Rattle.std.proofs.Common.{◌+◌, ◌≤◌, ◌-◌, length, arith}
use Rattle.index_file.proofs.PlainTexts.{plain_next, plain_front}
use Rattle.index_file.proofs.plain.are_parts_plain.Goals as goal

pub parts-preserved : goal.parts-preserved
parts-preserved c =
    let room : c.parts.at + 8 ≤ length c.args.bytes.now = omega (arith, c.parts-test.true) in
    record {
      within = room;
      plain = plain_next c.args.bytes.now c.parts.at room c.parts.invariant.plain (c.is_part_plain.ensures c.if-not-is_part_plain.false);
    }

pub returns : goal.returns
returns c = λ yes. plain_front c.args.bytes.now (length c.args.bytes.now - 7) c.parts.at (let end = c.parts-test.false in omega (arith, end)) c.parts.invariant.plain
