use Rattle.std.proofs.Common.{◌≡◌, Err, rules}
use Rattle.ciff_read.specs.Private.Places.{start_data}
use Rattle.ciff_read.proofs.HeldParts.{header_given, header_not, header_unread}
use Rattle.ciff_read.proofs.Plain.{header_fault_plain}
use Rattle.whole_files.proofs.Told.{for_one}
use Rattle.ciff_read.proofs.reached_header.reach_header.Goals as goal

pub returns-in-Ok-clause-exact : goal.returns-in-Ok-clause-exact
returns-in-Ok-clause-exact g c =
    let w = c.reach_message.new.window in
    let body = c.in_ok-body.body in
    for_one _ _ _ _ (λ content read shows. header_given content w body c.as_slice.result.now c.as_slice.ensures.value c.in_ok-body.ensures.held.front (read shows) (start_data c.in-Ok.head) body.in_order c.in_ok-body.ensures.held.within c.in-Ok.ensures)
    c.in_ok-body.ensures.exact

pub returns-in-Err-clause-exact : goal.returns-in-Err-clause-exact
returns-in-Err-clause-exact g c =
    let w = c.reach_message.new.window in
    let body = c.in_ok-body.body in
    for_one _ _ _ _ (λ content read shows. header_not content w body c.as_slice.result.now c.as_slice.ensures.value c.in_ok-body.ensures.held.front (read shows) c.in-Err.fault c.in-Err.ensures)
    c.in_ok-body.ensures.exact

pub returns-in_err-body-clause-exact : goal.returns-in_err-body-clause-exact
returns-in_err-body-clause-exact g c =
    let fault = c.in_err-body.field-0.0 in
    let out : c.from_residual.result ≡ Err fault = search rules in
    rw out (for_one _ _ _ _ (λ content read shows. header_unread content fault (read shows)) c.in_err-body.ensures.exact)

pub returns-in-Err-clause-plain : goal.returns-in-Err-clause-plain
returns-in-Err-clause-plain g c = header_fault_plain 0 _ c.in-Err.fault c.in-Err.ensures

pub returns-in_err-body-clause-plain : goal.returns-in_err-body-clause-plain
returns-in_err-body-clause-plain g c =
    let fault = c.in_err-body.field-0.0 in
    let out : c.from_residual.result ≡ Err fault = search rules in
    rw out c.in_err-body.ensures.held
