use Rattle.std.proofs.Common.{◌≡◌, ℕ, List, ◌+◌, ◌*◌, ◌-◌, ◌<◌, ◌≤◌, ◌++◌, take, length, get_or, ap, ◌∙◌, arith}
use Rattle.jass_base.specs.Gaps.{docs_from}
use Rattle.codec_simple8.specs.Simple8.{count_of, fields, least_behind, width_of}
use Rattle.codec_simple8.proofs.Fours.{last_out, narrow_behind, narrow_docs, three_more}
use Rattle.codec_simple8.proofs.Tables.{count_some, narrow_counts, narrow_others, one_row}
use Rattle.codec_simple8.proofs.rows.put_narrow.Goals as goal

pub put_rows-requires-clause-some : goal.put_rows-requires-clause-some
put_rows-requires-clause-some c = omega (arith, c.count-count.ensures, count_some c.args.selector.number c.args.selector.few)

pub put_rows-requires-clause-rows : goal.put_rows-requires-clause-rows
put_rows-requires-clause-rows c = omega (arith, c.count-count.ensures, one_row c.args.selector.number c.if-selector-eq12.true)

pub put_rows-requires-clause-width : goal.put_rows-requires-clause-width
put_rows-requires-clause-width c =
    let others : c.args.selector.number < 15 = omega (arith, c.requires.to) in
    omega (arith, c.width.ensures, narrow_others c.args.selector.number others)

pub put_rows-requires-clause-spare : goal.put_rows-requires-clause-spare
put_rows-requires-clause-spare c =
    let others : c.args.selector.number < 15 = omega (arith, c.requires.to) in
    three_more c.width.result (4 * 1 - c.count-count.result) (omega (arith, c.width.ensures, narrow_others c.args.selector.number others))
    (omega (arith, c.count-count.ensures, one_row c.args.selector.number c.if-selector-eq12.true))

pub put_rows-requires-clause-below : goal.put_rows-requires-clause-below
put_rows-requires-clause-below c =
    narrow_docs c.args.selector.number c.args.least c.args.values c.count-count.result c.width.result c.requires.from c.requires.to c.requires.least c.count-count.ensures c.width.ensures

pub overflow_add-result : goal.overflow_add-result
overflow_add-result c = record { fits = omega (arith, c.count-count.ensures, narrow_counts c.args.selector.number c.requires.from c.args.selector.few, c.requires.room) }

pub overflow_sub-result : goal.overflow_sub-result
overflow_sub-result c = omega (arith, c.count-count.ensures, count_some c.args.selector.number c.args.selector.few)

pub bounds-out-filled : goal.bounds-out-filled
bounds-out-filled c = omega (arith, c.count-count.ensures, narrow_counts c.args.selector.number c.requires.from c.args.selector.few, c.requires.room, c.put_eights.ensures.length)

-- what the last document tells
behind : (w filled count values least : ℕ) (old out : List ℕ) (n : ℕ) → n ≡ count → 0 < count → filled ≤ length old → take (filled + count) out ≡ take filled old ++ docs_from least (fields w count values)
    → get_or out (filled + n - 1) 0 + 1 ≡ least_behind least (fields w count values)
behind w filled count values least old out n same some within docs = ap (λ n. get_or out (filled + n - 1) 0 + 1) same ∙ last_out w count filled values least old out some within docs

pub overflow_add-result-2 : goal.overflow_add-result-2
overflow_add-result-2 c =
    let is = behind (width_of c.args.selector.number) c.args.filled (count_of c.args.selector.number) c.args.values c.args.least c.args.out.now c.put_eights.new.out c.count-count.result c.count-count.ensures
    (count_some c.args.selector.number c.args.selector.few) (omega (arith, c.requires.room)) c.put_eights.ensures.docs in
    record { fits = omega (arith, is, narrow_behind c.args.selector.number c.args.least c.args.values c.requires.from c.requires.to c.requires.least) }

pub returns-clause-docs : goal.returns-clause-docs
returns-clause-docs c = c.put_eights.ensures.docs

pub returns-clause-next : goal.returns-clause-next
returns-clause-next c =
    behind (width_of c.args.selector.number) c.args.filled (count_of c.args.selector.number) c.args.values c.args.least c.args.out.now c.put_eights.new.out c.count-count.result c.count-count.ensures
    (count_some c.args.selector.number c.args.selector.few) (omega (arith, c.requires.room)) c.put_eights.ensures.docs
