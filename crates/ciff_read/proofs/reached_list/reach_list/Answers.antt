use Rattle.std.proofs.Common.{◌≡◌, ◌-◌, ℕ, Err, rules, option_map, sym, subst, arith}
use Rattle.jass_base.specs.CiffViews.{list_data}
use Rattle.ciff_read.specs.declared.refusal.CiffFault.{CiffFault}
use Rattle.ciff_read.specs.Pieces.{list_of_file}
use Rattle.ciff_read.specs.Private.Places.{message_in}
use Rattle.ciff_read.specs.Private.Reached.{terms_behind}
use Rattle.ciff_read.specs.Reaching.{FailsReading}
use Rattle.ciff_read.proofs.HeldParts.{list_given, list_not, list_unread, near_moved, moved_other}
use Rattle.ciff_read.proofs.Plain.{moved_plain}
use Rattle.ciff_read.proofs.ReadingOn.{reads_else}
use Rattle.whole_files.proofs.Told.{for_one}
use Rattle.ciff_read.proofs.reached_list.reach_list.Goals as goal

pub fault_in_file-requires : goal.fault_in_file-requires
fault_in_file-requires g c = near_moved c.reach_message.new.window.start c.in_ok-body.body.end c.in-Err.fault c.in-Err.ensures.given.0 (omega (arith, c.in_ok-body.ensures.held.near))

pub returns-in-Ok-clause-exact : goal.returns-in-Ok-clause-exact
returns-in-Ok-clause-exact g c =
    let w = c.reach_message.new.window in
    let body = c.in_ok-body.body in
    let place : ℕ = c.args.at - w.start in
    let terms = terms_behind (option_map (λ k. k.now) c.args.kept) in
    for_one _ _ _ _ (λ content read shows.
    list_given content w body c.as_slice-bytes.result.now c.args.at place c.as_slice-bytes.ensures.value (omega (arith, c.in_ok-body.ensures.held.front)) (read shows) c.args.docs c.args.before terms c.messages_move.ensures.list (list_data c.in-Ok.list) body.in_order c.in_ok-body.ensures.held.within
    c.in-Ok.ensures.exact)
    c.in_ok-body.ensures.exact

pub returns-in-Err-clause-exact : goal.returns-in-Err-clause-exact
returns-in-Err-clause-exact g c =
    let w = c.reach_message.new.window in
    let body = c.in_ok-body.body in
    let place : ℕ = c.args.at - w.start in
    let terms = terms_behind (option_map (λ k. k.now) c.args.kept) in
    for_one _ _ _ _ (λ content read shows.
    subst (λ (e : CiffFault). FailsReading e (list_of_file content c.args.docs c.args.before terms c.args.at)) (sym c.fault_in_file.ensures)
    (list_not content w body c.as_slice-bytes.result.now c.args.at place c.as_slice-bytes.ensures.value (omega (arith, c.in_ok-body.ensures.held.front)) (read shows) c.args.docs c.args.before terms c.messages_move.ensures.list c.in-Err.fault c.in-Err.ensures.exact))
    c.in_ok-body.ensures.exact

pub returns-in-Err-clause-given : goal.returns-in-Err-clause-given
returns-in-Err-clause-given g c = moved_plain c.reach_message.new.window.start c.in-Err.fault c.fault_in_file.result c.in-Err.ensures.given.1 c.fault_in_file.ensures

pub returns-in-Err-clause-reads : goal.returns-in-Err-clause-reads
returns-in-Err-clause-reads g c =
    reads_else c.fault_in_file.result c.in_ok-body.ensures.reads (moved_other c.reach_message.new.window.start c.in_ok-body.body.end c.in-Err.fault c.fault_in_file.result c.in-Err.ensures.given.0 c.fault_in_file.ensures)

pub returns-in_err-body-clause-exact : goal.returns-in_err-body-clause-exact
returns-in_err-body-clause-exact g c =
    let fault = c.in_err-body.field-0.0 in
    let out : c.from_residual.result ≡ Err fault = search rules in
    rw out (for_one _ _ _ _ (λ content read shows. list_unread content c.args.docs c.args.before (terms_behind (option_map (λ k. k.now) c.args.kept)) c.args.at fault (read shows)) c.in_err-body.ensures.exact)

pub returns-in_err-body-clause-given : goal.returns-in_err-body-clause-given
returns-in_err-body-clause-given g c =
    let fault = c.in_err-body.field-0.0 in
    let out : c.from_residual.result ≡ Err fault = search rules in
    rw out c.in_err-body.ensures.held

pub returns-in-Ok-clause-held : goal.returns-in-Ok-clause-held
returns-in-Ok-clause-held g c =
    record { front = c.in_ok-body.ensures.held.front; message = message_in c.reach_message.new.window.bytes.items c.in_ok-body.body; there = c.in_ok-body.ensures.message; judged = rw (sym c.as_slice-bytes.ensures.value) c.in-Ok.ensures.exact }
