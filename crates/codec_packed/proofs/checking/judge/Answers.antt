use Rattle.std.proofs.Common.{◌/◌, ◌%◌, ◌-◌, ◌+◌, sym, ◌∙◌, rules}
use Rattle.codec_packed.specs.Reading.{read_packed}
use Rattle.codec_packed.proofs.Checks.{judged, block_turn, blocks_end}
use Rattle.codec_packed.proofs.checking.judge.Goals as goal

pub loop-turn-preserved : goal.loop-turn-preserved
loop-turn-preserved c = (
  block_turn c.args.d c.loop-turn.least (c.args.count / 128) c.loop-turn._turn c.loop-turn.at (c.args.count % 128) c.args.bytes.now _ c.loop-turn-test.true c.loop-turn.invariant.0
      ∙ c.in_ok-at.ensures.0 (c.args.count / 128 - (c.loop-turn._turn + 1)) (c.args.count % 128),
  c.in_ok-at.ensures.1,
  c.in_ok-at.ensures.2,
)

pub returns-in_err-at : goal.returns-in_err-at
returns-in_err-at c =
    let known = block_turn c.args.d c.loop-turn.least (c.args.count / 128) c.loop-turn._turn c.loop-turn.at (c.args.count % 128) c.args.bytes.now _ c.loop-turn-test.true c.loop-turn.invariant.0
    ∙ c.in_err-at.ensures (c.args.count / 128 - (c.loop-turn._turn + 1)) (c.args.count % 128) in
    judged (read_packed c.args.d c.args.count c.args.bytes.now) c.from_residual.result (rw known (search rules))

pub returns : goal.returns
returns c = judged (read_packed c.args.d c.args.count c.args.bytes.now) c.check_gaps.result
    (c.check_gaps.ensures
    ∙ sym (blocks_end c.args.d c.loop-turn.least (c.args.count / 128) c.loop-turn._turn c.loop-turn.at (c.args.count % 128) c.args.bytes.now _ c.loop-turn-test.false c.loop-turn.invariant.0))
