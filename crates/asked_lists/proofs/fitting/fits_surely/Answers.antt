use Rattle.shared_lemmas.proofs.Common.{◌≡◌, ◌≤◌, ◌-◌, ◌^◌, ap, arith, min, nat_tests, sum_by}
use Rattle.asked_lists.specs.Bound.{file_bound, list_bound, name_bound}
use Rattle.asked_lists.proofs.Sizes.{all_few, asked_few}
use Rattle.asked_lists.proofs.fitting.fits_surely.Goals as goal

pub returns : goal.returns
returns c =
    let made = c.lists_by_term_make_the_index.ensures in
    let text = c.appended_payloads_make_the_text.ensures in
    let few = c.payloads_have_few_bytes.ensures.few in
    let one = c.args.collection.now in
    let found = c.saturating_add-2.result in
    let room : found ≡ min (file_bound one) (2 ^ 64 - 1) =
    omega (arith, ap (sum_by name_bound) c.as_slice.ensures, ap (sum_by list_bound) c.as_slice-2.ensures, c.names_bound-names.ensures, c.lists_bound-lists.ensures, c.saturating_add.ensures, c.saturating_add-2.ensures) in
    record {
      all = λ fits rule bits. let below : found ≤ 4294967296 = grind (arith, nat_tests, fits) in omega (arith, room, below, all_few made text.length text.sizes few one rule bits);
      asked = λ fits rule bits words. let below : found ≤ 4294967296 = grind (arith, nat_tests, fits) in omega (arith, room, below, asked_few made text.length text.sizes few one rule bits words);
      bound = grind (arith, nat_tests, room);
    }
