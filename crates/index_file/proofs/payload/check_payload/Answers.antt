use Rattle.std.proofs.Common.{[], sym, subst, arith}
use Rattle.index_file.proofs.Below.{payload_end, Fails}
use Rattle.index_file.specs.Parts.{told}
use Rattle.index_file.proofs.OnePayload.{payload_cut, payload_not, payload_alone, payload_read}
use Rattle.index_file.proofs.payload.check_payload.Goals as goal

pub returns-then-bytes-at-clause-exact : goal.returns-then-bytes-at-clause-exact
returns-then-bytes-at-clause-exact c =
    subst (λ fault. Fails fault (payload_end c.args.bytes.now c.args.docs [] (told c.args.head) c.args.at)) (sym c.refused.ensures)
    (payload_cut c.args.bytes.now c.args.docs [] (told c.args.head) c.args.at (omega (arith, c.if-bytes-at.true, c.requires.at)))

pub returns-in-Ok-clause-exact : goal.returns-in-Ok-clause-exact
returns-in-Ok-clause-exact c =
    let from = c.requires.at in
    payload_alone c.args.bytes.now c.args.docs (told c.args.head) c.args.at c.in-Ok.field-0 (omega (arith, c.if-bytes-at.false, from)) c.in-Ok.ensures.judged

pub returns-in-Ok-clause-payload : goal.returns-in-Ok-clause-payload
returns-in-Ok-clause-payload c =
    let fits = c.if-bytes-at.false in
    let from = c.requires.at in
    let read = payload_read c.args.bytes.now c.args.docs (told c.args.head) c.args.at c.in-Ok.field-0 (omega (arith, fits, from)) c.in-Ok.ensures.judged
    c.payloads_are_read.ensures.only (λ i. omega (arith, c.type_inv.bytes i)) c.requires.counted.0 c.requires.docs in
    record { within = omega (arith, fits, from); docs = read.0; count = read.1; spelled = read.2 }

pub returns-in-Err-clause-exact : goal.returns-in-Err-clause-exact
returns-in-Err-clause-exact c =
    let fits = c.if-bytes-at.false in
    let from = c.requires.at in
    subst (λ fault. Fails fault (payload_end c.args.bytes.now c.args.docs [] (told c.args.head) c.args.at)) (sym c.refused-in-Err.ensures)
    (payload_not (Unit {0}) c.args.bytes.now c.args.docs [] (told c.args.head) c.args.at c.in-Err.fault (omega (arith, fits, from)) c.in-Err.ensures.judged)
