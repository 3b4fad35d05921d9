use Rattle.std.proofs.Common.{refl, ap, ◌∙◌, [], Result, Ok}
use Rattle.ciff_read.specs.declared.refusal.CiffRefusal.{CiffRefusal}
use Rattle.ciff_read.specs.Judging.{NumberedDoc, numbered_of}
use Rattle.ciff_read.specs.Refusals.{◌>>=◌}
use Rattle.ciff_read.specs.Walking.{Walked, nothing_inside}
use Rattle.wire_fields.specs.Places.{field_in}
use Rattle.ciff_read.proofs.FieldValues.{IsNumbered, numbered_is, number_more, text_more}
use Rattle.ciff_read.proofs.Walks.{walks_start, walks_on, walks_end, walks_refused}
use Rattle.ciff_read.proofs.document.walk_document.Goals as goal

pub fields-init : goal.fields-init
fields-init c = walks_start nothing_inside c.args.bytes.now c.args.from _ c.requires (refl, refl, refl)

pub fields-preserved : goal.fields-preserved
fields-preserved c =
    let bytes = c.args.bytes.now in
    let f = field_in bytes c.in-Ok-Some.field in
    let reads = rw c.in-Ok-Some.field-0-is at c.in-Ok-Some.ensures in
    walks_on nothing_inside bytes c.args.from c.fields.at c.in-Ok-Some.field.next (IsNumbered c.fields.fields) c.fields.invariant f [] _ reads.1 reads.2 reads.0 refl
    (λ done was. (
      number_more 1 done.fields f c.fields.fields.docid c.number_or.result was.0
          (c.number_or.ensures bytes),
      text_more 2 done.fields f c.fields.fields.name.now c.bytes_or-fields.result.now was.1 c.bytes_or-fields.ensures,
      number_more 3 done.fields f c.fields.fields.length c.number_or-in-Ok-Some.result was.2
          (c.number_or-in-Ok-Some.ensures bytes),
    ))

pub returns-in-Ok-None : goal.returns-in-Ok-None
returns-in-Ok-None c =
    let w = c.fields.invariant in
    let end = rw c.in-Ok-None.field-0-is at c.in-Ok-None.ensures in
    let read = walks_end nothing_inside c.args.bytes.now c.args.from c.fields.at (IsNumbered c.fields.fields) w end in
    ap (λ (r : Result Walked CiffRefusal). r >>= λ walked. Ok (numbered_of walked.fields)) read ∙ ap (λ (x : NumberedDoc). Ok x) (numbered_is c.fields.fields w.done w.so_far)

pub returns-in-Err : goal.returns-in-Err
returns-in-Err c = walks_refused nothing_inside c.args.bytes.now c.args.from c.fields.at (IsNumbered c.fields.fields) c.fields.invariant (λ walked. Ok (numbered_of walked.fields)) c.in-Err.fault c.refused_field.result c.in-Err.ensures c.refused_field.ensures
