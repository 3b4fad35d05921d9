use Rattle.std.proofs.Common.{◌*◌, ◌-◌, ◌<◌, ◌≤◌, length, length-append, ap, ◌∙◌, arith}
use Rattle.std.specs.Int.{div_ceil}
use Rattle.jass_base.proofs.Accepting.{all_bytes}
use Rattle.index_file.specs.Private.Samples.{first_eight}
use Rattle.index_file.specs.Private.Tables.{part_of}
use Rattle.index_file.proofs.SampledTerms.{sampled_on, term_after, all_sampled}
use Rattle.index_file.proofs.RowOrder.{rows_in_order}
use Rattle.index_file.proofs.samples.sample_terms.Goals as goal

pub part-requires : goal.part-requires
part-requires c =
    let before : c.samples.i < div_ceil (length c.args.rows.now - 1) 64 = omega (arith, c.samples-test.true, c.div_ceil-i-end.ensures) in
    let order = rows_in_order c.requires.rows.0 c.args.text.now c.args.rows.now (64 * c.samples.i) c.requires.rows.1 (term_after (length c.args.rows.now) c.samples.i before) in
    (order.text_rises, order.text_within)

pub samples-preserved : goal.samples-preserved
unfolding part_of
samples-preserved c =
    let more = c.in_ok-push.ensures.ok in
    let count = c.samples.invariant.count in
    let size = ap length more ∙ length-append c.samples.samples _ in
    record {
      count = omega (arith, size, count);
      told = sampled_on c.args.text.now c.args.rows.now c.samples.samples c.push.new.self c.samples.i c.first_eight.result more count c.samples.invariant.told (c.first_eight.ensures.number ∙ ap first_eight c.part.ensures);
    }

pub returns : goal.returns
returns c =
    let count = c.samples.invariant.count in
    let over : div_ceil (length c.args.rows.now - 1) 64 ≤ length c.samples.samples = omega (arith, c.samples-test.false, c.div_ceil-i-end.ensures, count) in
    record {
      told = λ i low. c.samples.invariant.told i (omega (arith, low, count));
      bytes = all_bytes c.args.text.now (λ i. omega (arith, c.type_inv.text i));
      enough = all_sampled (length c.args.rows.now) (length c.samples.samples) over;
    }
