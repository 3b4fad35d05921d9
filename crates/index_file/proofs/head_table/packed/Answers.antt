use Rattle.std.proofs.Common.{◌+◌, ◌*◌, ◌∙◌, ap, arith}
use Rattle.index_file.proofs.HeadWords.{packed_back}
use Rattle.index_file.proofs.head_table.packed.Goals as goal

pub returns-clause-word : goal.returns-clause-word
returns-clause-word c =
    let h = c.args.head in
    let few = c.if-head-ge-IMPACTS.false in
    let short = c.if-head-ge-COUNTS.false in
    let small = c.if-head-ge-SIZES.false in
    packed_back h c.from-codec.result (c.from.result + 1024 * h.count + 524288 * h.size + 536870912 * c.from-codec.result)
    (omega (arith, few)) (omega (arith, short)) (omega (arith, small)) (c.from-codec.ensures ∙ c.number.ensures)
    (ap (λ n. n + 1024 * h.count + 524288 * h.size + 536870912 * c.from-codec.result) c.from.ensures)
