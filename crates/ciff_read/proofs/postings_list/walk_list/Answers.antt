use Rattle.std.proofs.Common.{◌≡◌, refl, ap, ◌∙◌, Result, Ok, fold, take}
use Rattle.shared_lemmas.proofs.Common.{arith, length-take}
use Rattle.ciff_read.specs.declared.refusal.CiffRefusal.{CiffRefusal}
use Rattle.ciff_read.specs.Judging.{ListStart, list_start_of, gather}
use Rattle.ciff_read.specs.Private.Places.{gathered_of}
use Rattle.ciff_read.specs.Refusals.{◌>>=◌}
use Rattle.ciff_read.specs.Walking.{Walked, entry_inside}
use Rattle.wire_fields.specs.Places.{field_in}
use Rattle.ciff_read.proofs.FieldValues.{list_start_is, number_more, text_more}
use Rattle.ciff_read.proofs.Parts.{gathers_more}
use Rattle.ciff_read.proofs.Runs.{walks_behind}
use Rattle.ciff_read.proofs.Walks.{walks_start, walks_on, walks_end, walks_refused, walks_inside}
use Rattle.ciff_read.proofs.postings_list.walk_list.Goals as goal

pub fields-init : goal.fields-init
fields-init c = record {
  walks = walks_start entry_inside (take c.args.body.end c.args.bytes.now) c.args.body.from _ (omega (arith, c.requires, c.args.body.in_order, length-take c.args.body.end c.args.bytes.now)) ((refl, refl, refl), refl);
  docs = refl;
  before = refl;
}

pub fields-preserved : goal.fields-preserved
fields-preserved c =
    let bytes = take c.args.body.end c.args.bytes.now in
    let f = field_in bytes c.in-Ok-Some.field in
    let reads = rw c.in-Ok-Some.field-0-is at c.in-Ok-Some.ensures in
    let g = c.in-Ok.ensures.read in
    let start = c.args.gathered.now in
    let old = c.take_run-at.new.self in
    let v = c.fields.invariant in
    let docs = c.take_run-at.ensures.docs ∙ v.docs in
    let before = c.take_run-at.ensures.before ∙ v.before in
    let walks = walks_behind bytes c.args.body.from c.fields.at c.take_run-at.result start c.fields.gathered old c.fields.fields c.take_run-at.ensures.run v.docs v.before v.walks in
    let gathered : gathered_of c.gather.new.gathered ≡ fold (gather start.docs start.before) (gathered_of old) g.entries = g.gathered ∙ ap (λ d. fold (gather d old.before) (gathered_of old) g.entries) docs ∙ ap (λ b. fold (gather start.docs b) (gathered_of old) g.entries) before in
    record {
      walks = walks_on entry_inside bytes c.args.body.from c.take_run-at.result c.in-Ok-Some.field.next _ walks f g.entries _ reads.1 reads.2 reads.0 g.read
          (λ done was. (
            (
              text_more 1 done.fields f c.fields.fields.term.now c.bytes_or-fields.result.now was.0.0 c.bytes_or-fields.ensures,
              number_more 2 done.fields f c.fields.fields.df c.number_or.result was.0.1 (c.number_or.ensures bytes),
              number_more 3 done.fields f c.fields.fields.cf c.number_or-in-Ok-Some.result was.0.2 (c.number_or-in-Ok-Some.ensures bytes),
            ),
            gathers_more start.docs start.before (gathered_of start) (gathered_of old) (gathered_of c.gather.new.gathered) done.entries g.entries was.1 gathered,
          ));
      docs = c.in-Ok.ensures.docs ∙ docs;
      before = c.in-Ok.ensures.before ∙ before;
    }

pub returns-in-Ok-None-clause-read : goal.returns-in-Ok-None-clause-read
returns-in-Ok-None-clause-read c =
    let v = c.fields.invariant in
    let w = walks_behind (take c.args.body.end c.args.bytes.now) c.args.body.from c.fields.at c.take_run-at.result c.args.gathered.now c.fields.gathered c.take_run-at.new.self c.fields.fields c.take_run-at.ensures.run v.docs v.before v.walks in
    let end = rw c.in-Ok-None.field-0-is at c.in-Ok-None.ensures in
    let read = walks_end entry_inside (take c.args.body.end c.args.bytes.now) c.args.body.from c.take_run-at.result _ w end in
    record {
      entries = w.done.entries;
      read = ap (λ (r : Result Walked CiffRefusal). r >>= λ walked. Ok (record { start = list_start_of walked.fields; entries = walked.entries })) read ∙ ap (λ (x : ListStart). Ok (record { start = x; entries = w.done.entries })) (list_start_is c.fields.fields w.done w.so_far.0);
      gathered = w.so_far.1;
    }

pub returns-in-Err-clause-read : goal.returns-in-Err-clause-read
returns-in-Err-clause-read c =
    let v = c.fields.invariant in
    let w = walks_behind (take c.args.body.end c.args.bytes.now) c.args.body.from c.fields.at c.take_run-at.result c.args.gathered.now c.fields.gathered c.take_run-at.new.self c.fields.fields c.take_run-at.ensures.run v.docs v.before v.walks in
    walks_refused entry_inside (take c.args.body.end c.args.bytes.now) c.args.body.from c.take_run-at.result _ w (λ walked. Ok (record { start = list_start_of walked.fields; entries = walked.entries })) c.in-Err.fault c.refused_field.result c.in-Err.ensures c.refused_field.ensures

pub returns-in-Err-gather-clause-read : goal.returns-in-Err-gather-clause-read
returns-in-Err-gather-clause-read c =
    let v = c.fields.invariant in
    let w = walks_behind (take c.args.body.end c.args.bytes.now) c.args.body.from c.fields.at c.take_run-at.result c.args.gathered.now c.fields.gathered c.take_run-at.new.self c.fields.fields c.take_run-at.ensures.run v.docs v.before v.walks in
    let reads = rw c.in-Ok-Some.field-0-is at c.in-Ok-Some.ensures in
    walks_inside entry_inside (take c.args.body.end c.args.bytes.now) c.args.body.from c.take_run-at.result c.in-Ok-Some.field.next _ w
    (λ walked. Ok (record { start = list_start_of walked.fields; entries = walked.entries }))
    (field_in (take c.args.body.end c.args.bytes.now) c.in-Ok-Some.field) c.in-Err-gather.fault reads.1 reads.2 reads.0 c.in-Err-gather.ensures.read
