use Rattle.std.proofs.Common.{◌-◌, drop, arith}
use Rattle.plain_codecs.proofs.Runs.{none_each, one_each, all_each, run_known}
use Rattle.plain_codecs.proofs.varbyte.runs.read_each.Goals as goal

pub loop-place-init : goal.loop-place-init
loop-place-init c = none_each c.args.bytes.now c.args.from c.args.first c.args.end c.args.out.now c.requires.run.0 c.requires.run.1 c.requires.order c.told-out

pub loop-place-preserved : goal.loop-place-preserved
loop-place-preserved c =
    one_each c.gap_varints_are_read.ensures.found c.args.bytes.now c.args.from c.args.first c.args.end c.loop-place.at c.loop-place.place c.next_gap-gap.result.0 c.next_gap-gap.result.1 c.args.out.now c.loop-place.out
    c.loop-place.invariant c.requires.block c.loop-place-test.true c.next_gap-gap.ensures.value c.next_gap-gap.ensures.behind c.next_gap-gap.ensures.within

pub next_gap-gap-requires-clause-known : goal.next_gap-gap-requires-clause-known
next_gap-gap-requires-clause-known c =
    let gaps = c.requires.run.0 in
    let place = c.loop-place.place in
    run_known c.gap_varints_are_read.ensures.found c.args.bytes.now c.loop-place.at (c.args.end - place) (drop (place - c.args.first) gaps)
    (c.loop-place.invariant.rest gaps c.requires.run.1) (let left = c.loop-place-test.true in omega arith)

pub next_gap-gap-requires-clause-within : goal.next_gap-gap-requires-clause-within
next_gap-gap-requires-clause-within c = c.loop-place.invariant.within

pub returns : goal.returns
returns c =
    let all = all_each c.args.bytes.now c.args.from c.args.first c.args.end c.loop-place.at c.loop-place.place c.args.out.now c.loop-place.out c.loop-place.invariant c.loop-place-test.false in
    record { gaps = all.gaps; behind = all.behind }
