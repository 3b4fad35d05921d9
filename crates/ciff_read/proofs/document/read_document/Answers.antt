use Rattle.std.proofs.Common.{◌∙◌, ap, sym, false, length, List, Option, ◌≡◌, ℕ, map, option_map}
use Rattle.std.proofs.lemmas.Bool.{not-true}
use Rattle.ciff_read.proofs.Below.{doc_data, DocRecord}
use Rattle.ciff_read.specs.Judging.{NumberedDoc, is_among}
use Rattle.ciff_read.specs.Private.Places.{message_in, table_of, numbered_from, records_of, seen_in}
use Rattle.ciff_read.specs.Reading.{doc_at}
use Rattle.ciff_read.specs.Private.Recording.{recorded, numbered_as}
use Rattle.ciff_read.specs.Private.Table.{has_value, with_value, table_with}
use Rattle.ciff_read.proofs.Answering.{fails_as}
use Rattle.ciff_read.proofs.HeldParts.{not_not}
use Rattle.ciff_read.proofs.Numbered.{length-inserted, among_all, insert_all}
use Rattle.ciff_read.proofs.Tables.{map-with, table-more}
use Rattle.ciff_read.proofs.document.read_document.Goals as goal

pub returns-in-Err-clause-exact : goal.returns-in-Err-clause-exact
returns-in-Err-clause-exact c = c.in-Err.ensures.refused (seen_in c.args.documents.now)

pub returns-in-Err-finish-clause-exact : goal.returns-in-Err-finish-clause-exact
returns-in-Err-finish-clause-exact c =
    let seen = seen_in c.args.documents.now in
    fails_as c.in-Err-finish.fault _ (doc_at c.args.docs seen c.args.at (message_in c.args.bytes.now c.args.body))
    (ap (λ b. recorded b c.args.at c.in-Ok.walked) (not_not c.has-is_new.result ∙ c.has-is_new.ensures) ∙ sym (c.in-Ok.ensures.walked seen)) c.in-Err-finish.ensures.exact

pub returns-in-Ok-put-clause-exact : goal.returns-in-Ok-put-clause-exact
returns-in-Ok-put-clause-exact c =
    let seen = seen_in c.args.documents.now in
    let d = c.in-Ok.walked in
    let made = c.in-Ok-finish.record in
    let old = table_with c.args.documents.now.records.items in
    let unseen : is_among d.number seen ≡ false = sym c.has-is_new.ensures ∙ not-true c.has-is_new.result c.in-Ok-finish.ensures.new in
    let new : has_value (table_of c.args.documents.now) d.fields.docid ≡ false = sym (among_all (table_of c.args.documents.now) d.fields.docid) ∙ ap (λ n. is_among n seen) (sym c.in-Ok.ensures.number) ∙ unseen in (
      numbered_as d made,
      c.in-Ok.ensures.walked seen ∙ ap (λ b. recorded b c.args.at d) (sym (not_not c.has-is_new.result ∙ c.has-is_new.ensures)) ∙ c.in-Ok-finish.ensures.exact,
      ap (λ (es : List (ℕ × DocRecord)). numbered_from 0 (map (option_map doc_data) (table_with es))) c.in-Ok-put.ensures.records
          ∙ ap (λ (t : List (Option DocRecord)). numbered_from 0 (map (option_map doc_data) t)) (table-more c.args.documents.now.records.items (d.number, made))
          ∙ ap (numbered_from 0) (map-with doc_data old d.number made)
          ∙ ap (λ n. numbered_from 0 (with_value (table_of c.args.documents.now) n (doc_data made))) c.in-Ok.ensures.number
          ∙ sym (insert_all (table_of c.args.documents.now) (numbered_as d made) new),
    )

pub returns-in-Ok-put-clause-one : goal.returns-in-Ok-put-clause-one
returns-in-Ok-put-clause-one c = let put = returns-in-Ok-put-clause-exact c in ap (λ (rs : List NumberedDoc). length rs) put.2 ∙ length-inserted put.0 (records_of c.args.documents.now)
