use Rattle.std.proofs.Common.{refl, ap, ◌∙◌, [], Result, Ok}
use Rattle.ciff_read.specs.declared.refusal.CiffRefusal.{CiffRefusal}
use Rattle.ciff_read.specs.Judging.{FileStart, start_of}
use Rattle.ciff_read.specs.Refusals.{◌>>=◌}
use Rattle.ciff_read.specs.Walking.{Walked, nothing_inside}
use Rattle.wire_fields.specs.Places.{field_in}
use Rattle.ciff_read.proofs.FieldValues.{IsHead, head_is, number_more, text_more, eight_more}
use Rattle.ciff_read.proofs.Walks.{walks_start, walks_on, walks_end, walks_refused}
use Rattle.ciff_read.proofs.header.walk_header.Goals as goal

pub fields-init : goal.fields-init
fields-init c = walks_start nothing_inside c.args.bytes.now c.args.from _ c.requires (record { version = refl; lists = refl; docs = refl; total_lists = refl; total_docs = refl; total_terms = refl; average = refl; description = refl })

pub fields-preserved : goal.fields-preserved
fields-preserved c =
    let bytes = c.args.bytes.now in
    let f = field_in bytes c.in-Ok-Some.field in
    let reads = rw c.in-Ok-Some.field-0-is at c.in-Ok-Some.ensures in
    walks_on nothing_inside bytes c.args.from c.fields.at c.in-Ok-Some.field.next (IsHead c.fields.fields) c.fields.invariant f [] _ reads.1 reads.2 reads.0 refl
    (λ done was. record {
      version = number_more 1 done.fields f c.fields.fields.version c.number_or.result was.version
          (c.number_or.ensures bytes);
      lists = number_more 2 done.fields f c.fields.fields.lists c.number_or-in-Ok-Some.result was.lists
          (c.number_or-in-Ok-Some.ensures bytes);
      docs = number_more 3 done.fields f c.fields.fields.docs c.number_or-in-Ok-Some-2.result was.docs
          (c.number_or-in-Ok-Some-2.ensures bytes);
      total_lists = number_more 4 done.fields f c.fields.fields.total_lists c.number_or-in-Ok-Some-3.result
          was.total_lists (c.number_or-in-Ok-Some-3.ensures bytes);
      total_docs = number_more 5 done.fields f c.fields.fields.total_docs
          c.number_or-in-Ok-Some-4.result was.total_docs (c.number_or-in-Ok-Some-4.ensures bytes);
      total_terms = number_more 6 done.fields f
          c.fields.fields.total_terms c.number_or-in-Ok-Some-5.result was.total_terms (c.number_or-in-Ok-Some-5.ensures bytes);
      average = eight_more 7 done.fields
          f c.fields.fields.average c.eight_or-fields.result was.average c.eight_or-fields.ensures;
      description = text_more 8 done.fields f
          c.fields.fields.description.now c.bytes_or-fields.result.now was.description c.bytes_or-fields.ensures;
    })

pub returns-in-Ok-None : goal.returns-in-Ok-None
returns-in-Ok-None c =
    let w = c.fields.invariant in
    let end = rw c.in-Ok-None.field-0-is at c.in-Ok-None.ensures in
    let read = walks_end nothing_inside c.args.bytes.now c.args.from c.fields.at (IsHead c.fields.fields) w end in
    ap (λ (r : Result Walked CiffRefusal). r >>= λ walked. Ok (start_of walked.fields)) read ∙ ap (λ (x : FileStart). Ok x) (head_is c.fields.fields w.done w.so_far)

pub returns-in-Err : goal.returns-in-Err
returns-in-Err c = walks_refused nothing_inside c.args.bytes.now c.args.from c.fields.at (IsHead c.fields.fields) c.fields.invariant (λ walked. Ok (start_of walked.fields)) c.in-Err.fault c.refused_field.result c.in-Err.ensures c.refused_field.ensures
