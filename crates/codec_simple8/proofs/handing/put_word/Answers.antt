use Rattle.std.proofs.Common.{◌≤◌, ◌^◌, arith}
use Rattle.jass_base.specs.Gaps.{docs_from}
use Rattle.codec_simple8.specs.Simple8.{count_of, fields, least_behind, width_of}
use Rattle.codec_simple8.proofs.Digits.{Below-wider}
use Rattle.codec_simple8.proofs.Docs.{below_behind}
use Rattle.codec_simple8.proofs.Fields.{length-fields}
use Rattle.codec_simple8.proofs.GapLists.{All-from_below}
use Rattle.codec_simple8.proofs.Tables.{count_most}
use Rattle.codec_simple8.proofs.handing.put_word.Goals as goal

pub overflow_add-behind : goal.overflow_add-behind
overflow_add-behind c = record { fits = omega (arith, c.requires.values, c.sum_gaps.ensures.most, c.count.ensures, count_most c.args.selector.number c.args.selector.few) }

pub overflow_add-behind-2 : goal.overflow_add-behind-2
overflow_add-behind-2 c = record { fits = omega (arith, c.requires.values, c.ranges.least.fits, c.from.ensures, c.sum_gaps.ensures.most, c.count.ensures, count_most c.args.selector.number c.args.selector.few) }

pub returns-then-behind-from-clause-none : goal.returns-then-behind-from-clause-none
returns-then-behind-from-clause-none c = λ _.
    omega (arith, c.if-behind-from.true, c.from.ensures, c.from-2.ensures, c.count.ensures, c.sum_gaps.ensures.sum, length-fields (width_of c.args.selector.number) (count_of c.args.selector.number) c.args.values)

pub put_gaps-requires-clause-below : goal.put_gaps-requires-clause-below
put_gaps-requires-clause-below c =
    let gaps = fields (width_of c.args.selector.number) (count_of c.args.selector.number) c.args.values in
    let low : least_behind c.args.least gaps ≤ c.args.d =
    omega (arith, c.if-behind-from.false, c.from.ensures, c.from-2.ensures, c.count.ensures, c.sum_gaps.ensures.sum, length-fields (width_of c.args.selector.number) (count_of c.args.selector.number) c.args.values) in
    let docs = docs_from c.args.least gaps in
    All-from_below (2 ^ 26) docs (Below-wider c.args.d (2 ^ 26) docs c.requires.limit (below_behind c.args.d c.args.least gaps low))

pub returns-clause-within : goal.returns-clause-within
returns-clause-within c =
    omega (arith, c.put_gaps.ensures.next, c.if-behind-from.false, c.from.ensures, c.from-2.ensures, c.count.ensures, c.sum_gaps.ensures.sum, length-fields (width_of c.args.selector.number) (count_of c.args.selector.number) c.args.values)
