use Rattle.shared_lemmas.proofs.Common.{◌≡◌, ◌≤◌, ◌<◌, ◌+◌, sum, take, ap, arith, rules, take_all}
use Rattle.codec_packed.proofs.Checks.{no_room, checks_fault, block_far, block_read}
use Rattle.codec_packed.proofs.checking.check_block.Goals as goal

pub returns-in_err-behind : goal.returns-in_err-behind
returns-in_err-behind c = checks_fault c.args.d c.args.least c.args.at c.args.bytes.now c.in_err-behind.field-0.0 c.from_residual.result c.in_err-behind.ensures (search rules)

pub returns-then-not-fits128 : goal.returns-then-not-fits128
returns-then-not-fits128 c =
    let far : c.args.d ≤ c.args.least + sum c.read_block.new.gaps + 127 = no_room _ _ c.fits128.result c.if-not-fits128.true c.fits128.ensures in
    block_far c.args.d c.args.least c.args.at c.in_ok-behind.behind c.args.bytes.now c.read_block.new.gaps c.read_block.array_long c.in_ok-behind.ensures.0 c.requires.least far

pub overflow_add-result : goal.overflow_add-result
overflow_add-result c =
    let fits : c.args.least + sum c.read_block.new.gaps + 127 < c.args.d = c.fits128.ensures.0 c.if-not-fits128.false in
    let all : sum (take 128 c.read_block.new.gaps) ≡ sum c.read_block.new.gaps = ap sum (take_all 128 c.read_block.new.gaps (omega (arith, c.read_block.array_long))) in
    omega (arith, c.running128.ensures.each 127 (omega arith), all, fits, c.requires.limit)

pub returns : goal.returns
returns c =
    let fits : c.args.least + sum c.read_block.new.gaps + 127 < c.args.d = c.fits128.ensures.0 c.if-not-fits128.false in
    let all : sum (take 128 c.read_block.new.gaps) ≡ sum c.read_block.new.gaps = ap sum (take_all 128 c.read_block.new.gaps (omega (arith, c.read_block.array_long))) in
    let last = c.running128.ensures.each 127 (omega arith) in (
      block_read c.args.d c.args.least c.args.at c.in_ok-behind.behind c.args.bytes.now c.read_block.new.gaps c.read_block.array_long c.in_ok-behind.ensures.0 (omega (arith, c.in_ok-behind.ensures.1)) _ fits (omega (arith, last, all)),
      c.in_ok-behind.ensures.2,
      omega (arith, last, all, fits),
    )
