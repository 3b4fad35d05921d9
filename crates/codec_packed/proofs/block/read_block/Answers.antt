use Rattle.std.proofs.Common.{arith}
use Rattle.codec_packed.proofs.Places.{no_width, too_wide, too_short, not_least, block_there}
use Rattle.codec_packed.proofs.block.read_block.Goals as goal

pub returns-then-at-bytes : goal.returns-then-at-bytes
returns-then-at-bytes c = no_width c.args.bytes.now c.args.at (omega arith)

pub returns-then-width-gt32 : goal.returns-then-width-gt32
returns-then-width-gt32 c = too_wide c.args.bytes.now c.args.at (omega arith) c.if-width-gt32.true

pub returns-then-bytes-at : goal.returns-then-bytes-at
returns-then-bytes-at c = too_short c.args.bytes.now c.args.at (omega arith) c.if-width-gt32.false (omega (arith, c.if-bytes-at.true, c.from-size.ensures))

pub returns-then-width128-width : goal.returns-then-width128-width
returns-then-width128-width c =
    not_least c.args.bytes.now c.args.at (omega arith) c.if-width-gt32.false c.from-size.result c.from-size.ensures c.unpack128.new.out c.unpack128.ensures (omega arith)
    (λ same. absurd (omega (arith, c.if-width128-width.true, c.width128.ensures.value, same)))

pub returns : goal.returns
returns c = (
  block_there c.args.bytes.now c.args.at (omega arith) c.if-width-gt32.false c.from-size.result c.from-size.ensures c.unpack128.new.out c.unpack128.ensures (omega arith)
      (omega (arith, c.width128.ensures.value, c.if-width128-width.false)),
  omega arith,
  omega arith,
)
