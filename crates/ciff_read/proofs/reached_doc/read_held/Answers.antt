use Rattle.std.proofs.Common.{◌∙◌, [], Ok, ap, sym, arith}
use Rattle.jass_base.specs.CiffViews.{doc_data}
use Rattle.ciff_read.specs.Private.Places.{message_in}
use Rattle.ciff_read.specs.Private.Recording.{recorded}
use Rattle.ciff_read.specs.Reading.{doc_at}
use Rattle.ciff_read.proofs.Answering.{fails_as}
use Rattle.ciff_read.proofs.Plain.{doc_fault_plain, rest_fault_plain}
use Rattle.ciff_read.proofs.HeldParts.{not_not, placed_place, cut_end, near_fault}
use Rattle.ciff_read.proofs.reached_doc.read_held.Goals as goal

pub returns-in-Err-clause-exact : goal.returns-in-Err-clause-exact
returns-in-Err-clause-exact c = λ numbers marks. c.in-Err.ensures.refused numbers

pub returns-in-Err-clause-given : goal.returns-in-Err-clause-given
returns-in-Err-clause-given c =
    let m = message_in c.args.bytes.now c.args.body in
    near_fault c.args.body.end c.in-Err.fault (doc_at c.args.docs [] c.args.at m) (c.in-Err.ensures.refused [])
    (λ e is. c.refusals_are_near.ensures.doc c.args.at c.args.body.end m e c.requires.at (cut_end c.args.bytes.now c.args.body) c.args.docs [] is)

pub returns-in-Ok-finish-clause-exact : goal.returns-in-Ok-finish-clause-exact
returns-in-Ok-finish-clause-exact c =
    let d = c.in-Ok.walked in
    let made = c.in-Ok-finish.record in
    λ numbers marks.
    c.in-Ok.ensures.walked numbers ∙ ap (λ b. recorded b c.args.at d) (sym (not_not c.contains-is_new.result ∙ c.contains-is_new.ensures ∙ marks d.number)) ∙ c.in-Ok-finish.ensures.exact
    ∙ ap (λ n. Ok (record { number = n; doc = doc_data made })) (sym c.in-Ok.ensures.number)

pub returns-in-Err-finish-clause-exact : goal.returns-in-Err-finish-clause-exact
returns-in-Err-finish-clause-exact c =
    let d = c.in-Ok.walked in
    λ numbers marks.
    fails_as c.in-Err-finish.fault _ (doc_at c.args.docs numbers c.args.at (message_in c.args.bytes.now c.args.body))
    (sym (c.in-Ok.ensures.walked numbers ∙ ap (λ b. recorded b c.args.at d) (sym (not_not c.contains-is_new.result ∙ c.contains-is_new.ensures ∙ marks d.number)))) c.in-Err-finish.ensures.exact

pub returns-in-Err-finish-clause-given : goal.returns-in-Err-finish-clause-given
returns-in-Err-finish-clause-given c = near_fault c.args.body.end c.in-Err-finish.fault _ c.in-Err-finish.ensures.exact (λ e is. omega (arith, placed_place c.args.at _ e is, c.requires.at))

pub returns-in-Err-clause-plain : goal.returns-in-Err-clause-plain
returns-in-Err-clause-plain c = doc_fault_plain c.args.docs [] c.args.at (message_in c.args.bytes.now c.args.body) c.in-Err.fault (c.in-Err.ensures.refused [])

pub returns-in-Err-finish-clause-plain : goal.returns-in-Err-finish-clause-plain
returns-in-Err-finish-clause-plain c = rest_fault_plain _ c.args.at c.in-Ok.walked c.in-Err-finish.fault c.in-Err-finish.ensures.exact
