use Rattle.std.proofs.Common.{drop, arith, Err, rules, ◌≡◌}
use Rattle.jass_base.specs.Gaps.{read_gaps}
use Rattle.plain_codecs.proofs.Reading.{skip_one, skip_over, skip_fault}
use Rattle.plain_codecs.proofs.varbyte.checking.skip_each.Goals as goal

pub loop-preserved : goal.loop-preserved
loop-preserved c =
    let bytes = c.args.bytes.now in
    record {
      reads = λ left few.
          skip_one (read_gaps c.args.d c.args.from.least left (drop c.args.from.at bytes)) bytes c.loop.at c.loop.least c.args.d left c.loop.counter (c.loop.invariant.reads left few) (omega (arith, few, c.loop-test.true))
          c.in_ok-gap.gap c.in_ok-gap.next c.in_ok-gap.ensures.value c.in_ok-gap.ensures.behind c.if-least-gap.false;
      low = omega (arith, c.if-least-gap.false);
      within = c.in_ok-gap.ensures.within;
    }

pub returns-in_err-gap-clause-fault : goal.returns-in_err-gap-clause-fault
returns-in_err-gap-clause-fault c =
    let bytes = c.args.bytes.now in
    let is : c.from_residual.result ≡ Err c.in_err-gap.field-0.0 = search rules in
    rw is (λ left few. skip_fault (read_gaps c.args.d c.args.from.least left (drop c.args.from.at bytes)) bytes c.loop.at c.loop.least c.args.d left c.loop.counter
    (c.loop.invariant.reads left few) (omega (arith, few, c.loop-test.true)) c.in_err-gap.field-0.0 c.in_err-gap.ensures.fault)

pub returns-then-least-gap-clause-fault : goal.returns-then-least-gap-clause-fault
returns-then-least-gap-clause-fault c = λ left few.
    let bytes = c.args.bytes.now in
    skip_over (read_gaps c.args.d c.args.from.least left (drop c.args.from.at bytes)) bytes c.loop.at c.loop.least c.args.d left c.loop.counter (c.loop.invariant.reads left few) (omega (arith, few, c.loop-test.true))
    c.in_ok-gap.gap c.in_ok-gap.next c.in_ok-gap.ensures.value c.in_ok-gap.ensures.behind c.loop.invariant.low c.if-least-gap.true
