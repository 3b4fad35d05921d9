use Rattle.std.proofs.Common.{drop, arith}
use Rattle.jass_base.specs.Gaps.{gaps_of}
use Rattle.codec_simple8.proofs.GapLists.{left_length}
use Rattle.codec_simple8.proofs.Trying.{least_is}
use Rattle.codec_simple8.proofs.encoding.selector_at.Goals as goal

pub returns-clause-selector : goal.returns-clause-selector
returns-clause-selector c =
    let is = c.selector_within.ensures in
    (least_is (drop c.args.at (gaps_of c.args.docs.now)) c.fitting.result c.selector_within.result.number c.fitting.ensures.exact c.selector_within.result.few is.few is.least).0

pub returns-clause-few : goal.returns-clause-few
returns-clause-few c =
    let is = c.selector_within.ensures in
    let few = (least_is (drop c.args.at (gaps_of c.args.docs.now)) c.fitting.result c.selector_within.result.number c.fitting.ensures.exact c.selector_within.result.few is.few is.least).1 in
    omega (arith, few, left_length c.args.docs.now c.args.at, c.requires.within)
