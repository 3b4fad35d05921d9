use Rattle.std.proofs.Common.{◌++◌, ◌+◌, ◌∙◌, [], arith, ap, refl, length, drop, map}
use Rattle.std.proofs.lemmas.List.{drop_all}
use Rattle.index_write.proofs.Below.{u32_bytes, term_bytes, terms_bytes, heads_bytes}
use Rattle.index_write.specs.Chosen.{head_data}
use Rattle.index_write.specs.Streaming.{entry_data}
use Rattle.index_write.proofs.Entries.{entries_part}
use Rattle.index_write.proofs.Memory.{next_at}
use Rattle.index_write.proofs.Sending.{up_to_none, up_to_more, up_to_all}
use Rattle.index_write.proofs.pieced_front.put_entries.Goals as goal

pub loop-entry-init : goal.loop-entry-init
loop-entry-init g c = up_to_none g.C.Cabinet c.args.file.now c.args.files.now c.args.pieces.now (terms_bytes [] (map entry_data c.args.entries.now))

pub loop-entry-preserved : goal.loop-entry-preserved
loop-entry-preserved g c =
    let entries = c.args.entries.now in
    let i = c.loop-entry.entry-index in
    let before = c.loop-entry.before.now in
    let term = c.as_bytes-term.result.now in
    let heads = c.as_slice.result.now in
    let next = next_at entries entries i c.entry-item.result refl c.loop-entry-test.true c.entry-item.is in
    up_to_more g.C.Cabinet c.args.file.now (terms_bytes before (map entry_data (drop i entries)))
    (term_bytes before term ++ (u32_bytes (length heads) ++ heads_bytes (map head_data heads))) (terms_bytes term (map entry_data (drop (i + 1) entries)))
    (entries_part before term heads c.entry-item.result (drop i entries) (drop (i + 1) entries) next (c.as_bytes-term.ensures.value ∙ c.as_str.ensures.bytes) c.as_slice.ensures)
    c.loop-entry.invariant c.put_entry.ensures

pub returns : goal.returns
returns g c =
    let before = c.loop-entry.before.now in
    up_to_all g.C.Cabinet c.args.file.now (terms_bytes before (map entry_data (drop c.loop-entry.entry-index c.args.entries.now)))
    (ap (λ es. terms_bytes before (map entry_data es)) (drop_all c.loop-entry.entry-index c.args.entries.now (omega (arith, c.loop-entry-test.false)))) c.loop-entry.invariant
