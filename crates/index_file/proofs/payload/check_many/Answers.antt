use Rattle.std.proofs.Common.{◌+◌, ◌++◌, true, false, sym, subst, ◌≡◌, Err, rules}
use Rattle.index_file.proofs.Below.{docs_in, payload_end, Fails}
use Rattle.index_file.specs.Marks.{AreMarks}
use Rattle.index_file.specs.Parts.{told}
use Rattle.index_file.proofs.MarkLists.{marked_are}
use Rattle.index_file.proofs.OnePayload.{payload_fails, apart_end}
use Rattle.index_file.proofs.payload.check_many.Goals as goal

pub returns-in_err-check_payload-clause-exact : goal.returns-in_err-check_payload-clause-exact
returns-in_err-check_payload-clause-exact c = λ earlier are.
    let out : c.from_residual.result ≡ Err c.in_err-check_payload.field-0.0 = search rules in
    rw out (payload_fails c.args.bytes.now c.args.docs (told c.args.head) c.args.at earlier c.in_err-check_payload.field-0.0 c.in_err-check_payload.ensures.exact)

pub returns-then-mark_payload-clause-exact : goal.returns-then-mark_payload-clause-exact
returns-then-mark_payload-clause-exact c = λ earlier are.
    let bytes = c.args.bytes.now in
    let d = c.args.docs in
    let head = told c.args.head in
    let at = c.args.at in
    let met = c.if-mark_payload.ensures.met in
    subst (λ fault. Fails fault (payload_end bytes d earlier head at)) (sym c.refused.ensures)
    (apart_end bytes d c.args.now head at (at + c.args.head.size) earlier c.args.marks.now true c.in_ok-check_payload.ensures.exact are c.in_ok-check_payload.ensures.payload.docs c.requires.marks met)

pub returns-clause-exact : goal.returns-clause-exact
returns-clause-exact c = λ earlier are.
    let bytes = c.args.bytes.now in
    let d = c.args.docs in
    let head = told c.args.head in
    let at = c.args.at in
    let met = c.if-mark_payload.ensures.met in
    apart_end bytes d c.args.now head at (at + c.args.head.size) earlier c.args.marks.now false c.in_ok-check_payload.ensures.exact are c.in_ok-check_payload.ensures.payload.docs c.requires.marks met

pub returns-clause-marks : goal.returns-clause-marks
returns-clause-marks c = λ earlier are.
    let docs = docs_in c.args.bytes.now c.args.docs (told c.args.head) c.args.at in
    let new = c.mark_payload.ensures.marks c.if-mark_payload.false in
    subst (AreMarks c.args.now (earlier ++ docs)) (sym new) (marked_are c.args.now docs earlier c.args.marks.now are)
