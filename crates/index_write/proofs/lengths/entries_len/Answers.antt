use Rattle.std.proofs.Common.{arith, ap, refl, length, drop, map, ◌+◌, ◌∙◌}
use Rattle.index_layout.specs.Layout.{rest_behind, terms_bytes}
use Rattle.index_write.specs.Streaming.{entry_data}
use Rattle.index_write.proofs.Entries.{entries_next_size}
use Rattle.index_write.proofs.Memory.{next_at}
use Rattle.index_write.proofs.lengths.entries_len.Goals as goal

pub term_len-len-requires : goal.term_len-len-requires
term_len-len-requires c =
    let entries = c.args.entries.now in
    let i = c.loop-entry.entry-index in
    let next = next_at entries entries i c.entry-item.result refl c.loop-entry-test.true c.entry-item.is in
    let rest = ap (λ bytes. length (rest_behind c.loop-entry.before.now bytes)) (c.as_bytes-bytes.ensures.value ∙ c.as_str.ensures.bytes) in
    omega (arith, rest, c.len.ensures, entries_next_size c.loop-entry.before.now c.entry-item.result (drop i entries) (drop (i + 1) entries) next, c.loop-entry.invariant, c.requires)

pub overflow_add-len : goal.overflow_add-len
overflow_add-len c =
    let entries = c.args.entries.now in
    let i = c.loop-entry.entry-index in
    let next = next_at entries entries i c.entry-item.result refl c.loop-entry-test.true c.entry-item.is in
    let rest = ap (λ bytes. length (rest_behind c.loop-entry.before.now bytes)) (c.as_bytes-bytes.ensures.value ∙ c.as_str.ensures.bytes) in
    omega (arith, rest, c.len.ensures, entries_next_size c.loop-entry.before.now c.entry-item.result (drop i entries) (drop (i + 1) entries) next, c.loop-entry.invariant, c.requires, c.term_len-len.ensures)

pub loop-entry-preserved : goal.loop-entry-preserved
loop-entry-preserved c =
    let entries = c.args.entries.now in
    let i = c.loop-entry.entry-index in
    let next = next_at entries entries i c.entry-item.result refl c.loop-entry-test.true c.entry-item.is in
    let spelled = c.as_bytes-bytes.ensures.value ∙ c.as_str.ensures.bytes in
    let rest = ap (λ bytes. length (rest_behind c.loop-entry.before.now bytes)) spelled in
    let same = ap (λ bytes. length (terms_bytes bytes (map entry_data (drop (i + 1) entries)))) spelled in
    omega (arith, same, rest, c.len.ensures, entries_next_size c.loop-entry.before.now c.entry-item.result (drop i entries) (drop (i + 1) entries) next, c.loop-entry.invariant, c.term_len-len.ensures)
