use Rattle.std.proofs.Common.{◌∙◌, ap, arith}
use Rattle.ciff_read.specs.Private.Places.{message_in, numbered_in}
use Rattle.ciff_read.specs.Reading.{doc_at}
use Rattle.ciff_read.specs.Refusals.{placed}
use Rattle.ciff_read.proofs.Answering.{refuses}
use Rattle.ciff_read.proofs.Parts.{doc_walks_not, doc_judged}
use Rattle.ciff_read.proofs.RecordedDocs.{number_over, number_past, number_fits}
use Rattle.ciff_read.proofs.document.walk_doc.Goals as goal

pub returns-in-Err-clause-refused : goal.returns-in-Err-clause-refused
returns-in-Err-clause-refused c = λ numbers. doc_walks_not c.args.bytes.now c.args.body c.args.at c.args.docs numbers c.in-Err.fault c.in-Err.ensures

pub returns-then-fields-clause-refused : goal.returns-then-fields-clause-refused
returns-then-fields-clause-refused c =
    let x = numbered_in c.in-Ok.fields in
    λ numbers.
    refuses c.refused.result _ (doc_at c.args.docs numbers c.args.at (message_in c.args.bytes.now c.args.body)) c.refused.ensures
    (doc_judged c.args.bytes.now c.args.body c.args.at c.args.docs numbers x c.in-Ok.ensures ∙ number_over c.args.at c.args.docs numbers x c.if-fields.true)

pub returns-then-fields-from-clause-refused : goal.returns-then-fields-from-clause-refused
returns-then-fields-from-clause-refused c =
    let x = numbered_in c.in-Ok.fields in
    λ numbers.
    refuses c.refused-then-fields-from.result _ (doc_at c.args.docs numbers c.args.at (message_in c.args.bytes.now c.args.body)) c.refused-then-fields-from.ensures
    (doc_judged c.args.bytes.now c.args.body c.args.at c.args.docs numbers x c.in-Ok.ensures ∙ number_past c.args.at c.args.docs numbers x c.if-fields.false (omega (arith, c.if-fields-from.true, c.from.ensures)))

pub returns-clause-walked : goal.returns-clause-walked
returns-clause-walked c =
    let x = numbered_in c.in-Ok.fields in
    λ numbers.
    doc_judged c.args.bytes.now c.args.body c.args.at c.args.docs numbers x c.in-Ok.ensures ∙ ap (placed c.args.at) (number_fits c.args.at c.args.docs numbers x c.if-fields.false (omega (arith, c.if-fields-from.false, c.from.ensures)))
