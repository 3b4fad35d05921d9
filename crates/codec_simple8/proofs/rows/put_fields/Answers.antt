use Rattle.std.proofs.Common.{◌+◌, ◌*◌, ◌-◌, ◌/◌, ◌<◌, arith}
use Rattle.codec_simple8.proofs.Fours.{three_more}
use Rattle.codec_simple8.proofs.Tables.{count_some, count_others, narrow_others}
use Rattle.codec_simple8.proofs.rows.put_fields.Goals as goal

pub put_gaps-requires-clause-room : goal.put_gaps-requires-clause-room
put_gaps-requires-clause-room c = omega (arith, c.requires.room, count_others c.args.selector.number c.requires.from c.args.selector.few)

pub overflow_add-count : goal.overflow_add-count
overflow_add-count c =
    record { fits = omega (arith, c.count-count.ensures, count_others c.args.selector.number c.requires.from c.args.selector.few) }

pub put_rows-requires-clause-some : goal.put_rows-requires-clause-some
put_rows-requires-clause-some c =
    omega (arith, c.count-count.ensures, count_some c.args.selector.number c.args.selector.few)

pub put_rows-requires-clause-width : goal.put_rows-requires-clause-width
put_rows-requires-clause-width c =
    let others : c.args.selector.number < 15 = omega (arith, c.args.selector.few, c.if-selector-eq15.false) in
    omega (arith, c.width.ensures, narrow_others c.args.selector.number others)

pub put_rows-requires-clause-spare : goal.put_rows-requires-clause-spare
put_rows-requires-clause-spare c =
    let others : c.args.selector.number < 15 = omega (arith, c.args.selector.few, c.if-selector-eq15.false) in
    three_more c.width.result (4 * ((c.count-count.result + 3) / 4) - c.count-count.result)
    (omega (arith, c.width.ensures, narrow_others c.args.selector.number others)) (omega arith)

pub put_rows-requires-clause-room : goal.put_rows-requires-clause-room
put_rows-requires-clause-room c =
    omega (arith, c.requires.room, c.count-count.ensures, count_others c.args.selector.number c.requires.from c.args.selector.few)
