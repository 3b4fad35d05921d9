use Rattle.std.proofs.Common.{◌+◌, ◌*◌, ◌-◌, ◌^◌, arith}
use Rattle.jass_base.specs.Gaps.{docs_from}
use Rattle.codec_simple8.specs.Simple8.{fields}
use Rattle.codec_simple8.proofs.Docs.{behind_below}
use Rattle.codec_simple8.proofs.Fours.{fours_start, fours_more, fours_all, last_out}
use Rattle.codec_simple8.proofs.GapLists.{below_from_All}
use Rattle.codec_simple8.proofs.rows.put_rows.Goals as goal

pub loop-row-init : goal.loop-row-init
loop-row-init c =
    fours_start c.args.width _ (4 * c.args.rows) _ (4 * c.args.rows - c.args.count) c.args.count c.args.filled c.args.values c.args.least c.args.out.now
    (omega arith) (omega (arith, c.requires.rows)) c.requires.spare (omega arith) (omega (arith, c.requires.least))
    (below_from_All (2 ^ 27) (2 ^ 27) (docs_from c.args.least (fields c.args.width c.args.count c.args.values)) (omega arith) c.requires.below)

pub loop-row-preserved : goal.loop-row-preserved
loop-row-preserved c =
    fours_more c.args.width (4 * (c.args.rows - (c.loop-row.row + 1))) (4 * (c.args.rows - c.loop-row.row))
    (c.args.filled + 4 * c.loop-row.row) (c.args.filled + 4 * (c.loop-row.row + 1)) c.loop-row.pair c.loop-row.first c.loop-row.out _ c.fields4.result c.sums4-sums.result c.behind4-pair.result
    (omega (arith, c.loop-row-test.true)) (omega arith) (omega (arith, c.requires.room, c.loop-row-test.true, c.loop-row.auto.out))
    c.loop-row.invariant c.fields4.ensures c.sums4-sums.ensures c.behind4-pair.ensures

pub overflow_add-result-2 : goal.overflow_add-result-2
overflow_add-result-2 c =
    let docs = fours_all c.args.width _ (4 * c.args.rows) _ (4 * c.args.rows - c.args.count) c.args.count c.args.filled c.args.values c.args.least c.loop-row.pair c.loop-row.first
    c.args.out.now c.loop-row.out (omega (arith, c.loop-row-test.false)) (omega (arith, c.requires.rows)) (omega (arith, c.loop-row-test.false, c.loop-row.auto.row-end)) (omega (arith, c.requires.room)) c.loop-row.invariant in
    let last = last_out c.args.width c.args.count c.args.filled c.args.values c.args.least c.args.out.now c.loop-row.out c.requires.some (omega (arith, c.requires.room)) docs in
    let below = behind_below (2 ^ 27) c.args.least (fields c.args.width c.args.count c.args.values) (omega (arith, c.requires.least))
    (below_from_All (2 ^ 27) (2 ^ 27) (docs_from c.args.least (fields c.args.width c.args.count c.args.values)) (omega arith) c.requires.below) in
    record { fits = omega (arith, last, below) }

pub returns-clause-docs : goal.returns-clause-docs
returns-clause-docs c =
    fours_all c.args.width _ (4 * c.args.rows) _ (4 * c.args.rows - c.args.count) c.args.count c.args.filled c.args.values c.args.least c.loop-row.pair c.loop-row.first
    c.args.out.now c.loop-row.out (omega (arith, c.loop-row-test.false)) (omega (arith, c.requires.rows)) (omega (arith, c.loop-row-test.false, c.loop-row.auto.row-end)) (omega (arith, c.requires.room)) c.loop-row.invariant

pub returns-clause-next : goal.returns-clause-next
returns-clause-next c =
    last_out c.args.width c.args.count c.args.filled c.args.values c.args.least c.args.out.now c.loop-row.out c.requires.some (omega (arith, c.requires.room)) (
    fours_all c.args.width _ (4 * c.args.rows) _ (4 * c.args.rows - c.args.count) c.args.count c.args.filled c.args.values c.args.least c.loop-row.pair c.loop-row.first
    c.args.out.now c.loop-row.out (omega (arith, c.loop-row-test.false)) (omega (arith, c.requires.rows)) (omega (arith, c.loop-row-test.false, c.loop-row.auto.row-end)) (omega (arith, c.requires.room)) c.loop-row.invariant)
