use Rattle.std.proofs.Common.{arith}
use Rattle.jass_base.proofs.Accepting.{all_bytes}
use Rattle.index_file.specs.Private.Samples.{first_eight, leading}
use Rattle.index_file.proofs.Leading.{leading_on, leading_done, number_small, number_fits}
use Rattle.index_file.proofs.samples.first_eight.Goals as goal

pub overflow_mul-number : goal.overflow_mul-number
overflow_mul-number c =
    let fits = number_fits c.bytes.number 0 c.bytes.i c.bytes.invariant.small c.bytes-test.true (omega arith) in
    omega (arith, fits)

pub overflow_add-number : goal.overflow_add-number
overflow_add-number c =
    let fits = number_fits c.bytes.number c.byte_at.result c.bytes.i c.bytes.invariant.small c.bytes-test.true c.byte_at.type_inv in
    omega (arith, fits, c.from.ensures)

pub bytes-preserved : goal.bytes-preserved
bytes-preserved c = rw c.from.ensures (record {
  read = leading_on (leading 8 c.args.text.now) c.bytes.number c.byte_at.result c.bytes.i c.args.text.now c.bytes-test.true c.byte_at.ensures c.bytes.invariant.read;
  small = number_small c.bytes.number c.byte_at.result c.bytes.i c.bytes.invariant.small c.byte_at.type_inv;
})

pub returns-clause-number : goal.returns-clause-number
unfolding first_eight
returns-clause-number c =
    let most = c.bytes.auto.i-end in
    leading_done (leading 8 c.args.text.now) c.bytes.number c.bytes.i c.args.text.now (omega (arith, c.bytes-test.false, most)) c.bytes.invariant.read

pub returns-clause-bytes : goal.returns-clause-bytes
returns-clause-bytes c = all_bytes c.args.text.now (λ i. omega (arith, c.type_inv.text i))
