use Rattle.std.proofs.Common.{◌≡◌, ◌-◌, ℕ, Err, rules, sym, subst, arith}
use Rattle.ciff_read.specs.declared.refusal.CiffFault.{CiffFault}
use Rattle.ciff_read.specs.Pieces.{doc_of_file}
use Rattle.ciff_read.specs.Private.Reached.{doc_numbered}
use Rattle.ciff_read.specs.Reaching.{FailsReading}
use Rattle.ciff_read.proofs.HeldParts.{doc_given, doc_not, doc_unread, near_moved, moved_other}
use Rattle.ciff_read.proofs.Plain.{moved_plain}
use Rattle.ciff_read.proofs.ReadingOn.{reads_else}
use Rattle.whole_files.proofs.Told.{for_one}
use Rattle.ciff_read.proofs.reached_doc.reach_doc.Goals as goal

pub fault_in_file-requires : goal.fault_in_file-requires
fault_in_file-requires g c = near_moved c.reach_message.new.window.start c.in_ok-body.body.end c.in-Err.fault c.in-Err.ensures.given (omega (arith, c.in_ok-body.ensures.held.near))

pub returns-in-Ok-clause-exact : goal.returns-in-Ok-clause-exact
returns-in-Ok-clause-exact g c =
    let w = c.reach_message.new.window in
    let body = c.in_ok-body.body in
    let place : ℕ = c.args.at - w.start in
    for_one _ _ _ _ (λ content read shows numbers marks.
    doc_given content w body c.as_slice.result.now c.args.at place c.as_slice.ensures.value (omega (arith, c.in_ok-body.ensures.held.front)) (read shows) c.args.docs numbers c.messages_move.ensures.doc (doc_numbered (c.in-Ok.number, c.in-Ok.record)) body.in_order c.in_ok-body.ensures.held.within
    (c.in-Ok.ensures.exact numbers marks))
    c.in_ok-body.ensures.exact

pub returns-in-Err-clause-exact : goal.returns-in-Err-clause-exact
returns-in-Err-clause-exact g c =
    let w = c.reach_message.new.window in
    let body = c.in_ok-body.body in
    let place : ℕ = c.args.at - w.start in
    for_one _ _ _ _ (λ content read shows numbers marks.
    subst (λ (e : CiffFault). FailsReading e (doc_of_file content c.args.docs numbers c.args.at)) (sym c.fault_in_file.ensures)
    (doc_not content w body c.as_slice.result.now c.args.at place c.as_slice.ensures.value (omega (arith, c.in_ok-body.ensures.held.front)) (read shows) c.args.docs numbers c.messages_move.ensures.doc c.in-Err.fault (c.in-Err.ensures.exact numbers marks)))
    c.in_ok-body.ensures.exact

pub returns-in-Err-clause-reads : goal.returns-in-Err-clause-reads
returns-in-Err-clause-reads g c =
    reads_else c.fault_in_file.result c.in_ok-body.ensures.reads (moved_other c.reach_message.new.window.start c.in_ok-body.body.end c.in-Err.fault c.fault_in_file.result c.in-Err.ensures.given c.fault_in_file.ensures)

pub returns-in_err-body-clause-exact : goal.returns-in_err-body-clause-exact
returns-in_err-body-clause-exact g c =
    let fault = c.in_err-body.field-0.0 in
    let out : c.from_residual.result ≡ Err fault = search rules in
    rw out (for_one _ _ _ _ (λ content read shows numbers marks. doc_unread content c.args.docs numbers c.args.at fault (read shows)) c.in_err-body.ensures.exact)

pub returns-in-Err-clause-plain : goal.returns-in-Err-clause-plain
returns-in-Err-clause-plain g c = moved_plain c.reach_message.new.window.start c.in-Err.fault c.fault_in_file.result c.in-Err.ensures.plain c.fault_in_file.ensures

pub returns-in_err-body-clause-plain : goal.returns-in_err-body-clause-plain
returns-in_err-body-clause-plain g c =
    let fault = c.in_err-body.field-0.0 in
    let out : c.from_residual.result ≡ Err fault = search rules in
    rw out c.in_err-body.ensures.held
