use Rattle.std.proofs.Common.{refl, ap, ◌∙◌, [], Result, Ok}
use Rattle.ciff_read.specs.declared.posting_fields.PostingFields.{PostingFields}
use Rattle.ciff_read.specs.declared.refusal.CiffRefusal.{CiffRefusal}
use Rattle.ciff_read.specs.Refusals.{◌>>=◌}
use Rattle.ciff_read.specs.Walking.{Walked, nothing_inside, entry_of}
use Rattle.wire_fields.specs.Places.{field_in}
use Rattle.ciff_read.proofs.FieldValues.{IsEntry, entry_is, number_more}
use Rattle.ciff_read.proofs.Walks.{walks_start, walks_on, walks_end, walks_refused}
use Rattle.ciff_read.proofs.posting_fields.read_entry.Goals as goal

pub fields-init : goal.fields-init
fields-init c = walks_start nothing_inside c.args.bytes.now c.args.from (IsEntry (record { docid = 0; tf = 0 })) c.requires (refl, refl)

pub fields-preserved : goal.fields-preserved
fields-preserved c =
    let bytes = c.args.bytes.now in
    let field = c.in-Ok-Some.field in
    let f = field_in bytes field in
    let reads = rw c.in-Ok-Some.field-0-is at c.in-Ok-Some.ensures in
    walks_on nothing_inside bytes c.args.from c.fields.at field.next (IsEntry c.fields.entry) c.fields.invariant f [] (IsEntry (record { docid = c.number_or.result; tf = c.number_or-in-Ok-Some.result })) reads.1 reads.2 reads.0 refl
    (λ done was. (
      number_more 1 done.fields f c.fields.entry.docid c.number_or.result was.0 (c.number_or.ensures bytes),
      number_more 2 done.fields f c.fields.entry.tf c.number_or-in-Ok-Some.result was.1 (c.number_or-in-Ok-Some.ensures bytes),
    ))

pub returns-in-Ok-None : goal.returns-in-Ok-None
returns-in-Ok-None c =
    let w = c.fields.invariant in
    let end = rw c.in-Ok-None.field-0-is at c.in-Ok-None.ensures in
    let read = walks_end nothing_inside c.args.bytes.now c.args.from c.fields.at (IsEntry c.fields.entry) w end in
    ap (λ (r : Result Walked CiffRefusal). r >>= λ walked. Ok (entry_of walked.fields)) read ∙ ap (λ (e : PostingFields). Ok e) (entry_is c.fields.entry w.done w.so_far)

pub returns-in-Err : goal.returns-in-Err
returns-in-Err c = walks_refused nothing_inside c.args.bytes.now c.args.from c.fields.at (IsEntry c.fields.entry) c.fields.invariant (λ walked. Ok (entry_of walked.fields)) c.in-Err.fault c.refused_field.result c.in-Err.ensures c.refused_field.ensures
