use Rattle.std.proofs.Common.{arith, ap, refl, length, drop, map, ◌+◌, sum_by}
use Rattle.index_layout.specs.Heads.{greatest_of}
use Rattle.index_write.specs.Chosen.{head_data}
use Rattle.index_write.proofs.Entries.{count_next, count_of, greatest_next, postings_next, size_of, sizes_next}
use Rattle.index_write.proofs.Memory.{next_at}
use Rattle.index_write.proofs.sums.heads_sums.Goals as goal

pub loop-entry-preserved : goal.loop-entry-preserved
loop-entry-preserved c =
    let entries = c.args.entries.now in
    let i = c.loop-entry.entry-index in
    let t = c.entry-item.result in
    let from = drop i entries in
    let rest = drop (i + 1) entries in
    let next = next_at entries entries i t refl c.loop-entry-test.true c.entry-item.is in
    let heads = c.as_slice.ensures in
    let here = c.term_sums-here.ensures in
    let before = c.loop-entry.invariant in
    record {
      postings = omega (arith, here.postings, ap (λ hs. sum_by count_of (map head_data hs)) heads, postings_next t from rest next, before.postings);
      greatest = omega (arith, c.max-greatest.ensures, here.greatest, ap (λ hs. greatest_of (map head_data hs)) heads, greatest_next t from rest next, before.greatest);
      payloads = omega (arith, here.payloads, ap (λ hs. sum_by size_of (map head_data hs)) heads, sizes_next t from rest next, before.payloads);
      few_postings = omega (arith, here.few_postings, ap length heads, count_next t from rest next, before.few_postings);
      few_bytes = omega (arith, here.few_bytes, ap length heads, count_next t from rest next, before.few_bytes);
      within = omega (arith, count_next t from rest next, before.within);
    }

pub overflow_add-postings : goal.overflow_add-postings
overflow_add-postings c =
    let entries = c.args.entries.now in
    let i = c.loop-entry.entry-index in
    let t = c.entry-item.result in
    let next = next_at entries entries i t refl c.loop-entry-test.true c.entry-item.is in
    let here = c.term_sums-here.ensures in
    let before = c.loop-entry.invariant in
    omega (arith, here.few_postings, ap length c.as_slice.ensures, count_next t (drop i entries) (drop (i + 1) entries) next, before.few_postings, before.within, c.requires)

pub overflow_add-payloads : goal.overflow_add-payloads
overflow_add-payloads c =
    let entries = c.args.entries.now in
    let i = c.loop-entry.entry-index in
    let t = c.entry-item.result in
    let next = next_at entries entries i t refl c.loop-entry-test.true c.entry-item.is in
    let here = c.term_sums-here.ensures in
    let before = c.loop-entry.invariant in
    omega (arith, here.few_bytes, ap length c.as_slice.ensures, count_next t (drop i entries) (drop (i + 1) entries) next, before.few_bytes, before.within, c.requires)
