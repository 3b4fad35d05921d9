use Rattle.std.proofs.Common.{◌-◌, drop, arith}
use Rattle.jass_base.specs.Gaps.{read_gaps}
use Rattle.plain_codecs.proofs.Reading.{further}
use Rattle.plain_codecs.proofs.varbyte.checking.judge.Goals as goal

pub loop-left-preserved : goal.loop-left-preserved
loop-left-preserved c =
    let bytes = c.args.bytes.now in
    let d = c.args.d in
    let left = c.loop-left.left in
    let part = c.min-part.result in
    let place = c.loop-left.place in
    let behind = c.in_ok-place.place in
    record {
      reads = further (read_gaps d 0 c.args.count bytes) (read_gaps d place.least left (drop place.at bytes)) (read_gaps d behind.least (left - part) (drop behind.at bytes))
          c.loop-left.invariant.reads (c.in_ok-place.ensures.reads left (omega (arith, c.min-part.ensures)));
      low = c.in_ok-place.ensures.low;
      within = c.in_ok-place.ensures.within;
    }
