use Rattle.std.proofs.Common.{◌≡◌, ◌+◌, ◌≤◌, ℕ, List, [], length, take, Result, Ok, Err, sym, subst, arith}
use Rattle.index_file.proofs.Below.{PayloadFault, read_payload, payload_end, Fails}
use Rattle.index_file.specs.Parts.{told}
use Rattle.index_file.proofs.OnePayload.{payload_cut, payload_not, payload_alone, payload_read, docs_read, front_is, front_judged}
use Rattle.index_file.proofs.payload.check_into_block.Goals as goal

pub returns-then-bytes-at-clause-exact : goal.returns-then-bytes-at-clause-exact
returns-then-bytes-at-clause-exact c =
    subst (λ fault. Fails fault (payload_end c.args.bytes.now c.args.docs [] (told c.args.head) c.args.at)) (sym c.refused.ensures)
    (payload_cut c.args.bytes.now c.args.docs [] (told c.args.head) c.args.at (omega (arith, c.if-bytes-at.true, c.requires.at)))

pub returns-in-Ok-clause-exact : goal.returns-in-Ok-clause-exact
returns-in-Ok-clause-exact c =
    let inside : c.args.at + c.args.head.size ≤ length c.args.bytes.now = omega (arith, c.if-bytes-at.false, c.requires.at) in
    let accepted : Result (Unit {0}) PayloadFault = Ok c.in-Ok.field-0 in
    let judged = front_judged c.args.bytes.now c.args.docs (told c.args.head) c.args.at accepted inside c.in-Ok.ensures.judged in
    payload_alone c.args.bytes.now c.args.docs (told c.args.head) c.args.at c.in-Ok.field-0 inside judged

pub returns-in-Ok-clause-payload : goal.returns-in-Ok-clause-payload
returns-in-Ok-clause-payload c =
    let inside : c.args.at + c.args.head.size ≤ length c.args.bytes.now = omega (arith, c.if-bytes-at.false, c.requires.at) in
    let accepted : Result (Unit {0}) PayloadFault = Ok c.in-Ok.field-0 in
    let judged = front_judged c.args.bytes.now c.args.docs (told c.args.head) c.args.at accepted inside c.in-Ok.ensures.judged in
    let read = payload_read c.args.bytes.now c.args.docs (told c.args.head) c.args.at c.in-Ok.field-0 inside judged
    c.payloads_are_read.ensures.only (λ i. omega (arith, c.type_inv.bytes i)) c.requires.counted.0 c.requires.docs in
    record { within = inside; docs = read.0; count = read.1; spelled = read.2 }

pub returns-in-Err-clause-exact : goal.returns-in-Err-clause-exact
returns-in-Err-clause-exact c =
    let inside : c.args.at + c.args.head.size ≤ length c.args.bytes.now = omega (arith, c.if-bytes-at.false, c.requires.at) in
    let refused : Result (Unit {0}) PayloadFault = Err c.in-Err.fault in
    let judged = front_judged c.args.bytes.now c.args.docs (told c.args.head) c.args.at refused inside c.in-Err.ensures.judged in
    subst (λ fault. Fails fault (payload_end c.args.bytes.now c.args.docs [] (told c.args.head) c.args.at)) (sym c.refused-in-Err.ensures)
    (payload_not (Unit {0}) c.args.bytes.now c.args.docs [] (told c.args.head) c.args.at c.in-Err.fault inside judged)

pub returns-in-Ok-clause-docs : goal.returns-in-Ok-clause-docs
returns-in-Ok-clause-docs c =
    let fits = c.if-bytes-at.false in
    let from = c.requires.at in
    let docs : List ℕ = take c.args.head.count c.check_front_into.new.out in
    let read = subst (λ (part : List ℕ). read_payload c.args.head.codec c.args.docs c.args.head.count part ≡ Ok docs) (front_is c.args.bytes.now c.args.at c.args.head.size (omega (arith, fits, from))) c.in-Ok.ensures.docs in
    docs_read c.args.bytes.now c.args.docs (told c.args.head) c.args.at docs read
