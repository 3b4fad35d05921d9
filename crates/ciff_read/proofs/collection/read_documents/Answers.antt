use Rattle.shared_lemmas.proofs.Common.{◌∙◌, ◌≡◌, ◌+◌, ◌-◌, ap, sym, arith, suc, [], drop, length, map, List, Result, Ok, Err, rules, length-map}
use Rattle.ciff_read.proofs.Below.{DocRecord, DocData, doc_data}
use Rattle.ciff_read.specs.declared.refusal.CiffRefusal.{CiffRefusal}
use Rattle.ciff_read.specs.Judging.{NumberedDoc}
use Rattle.ciff_read.specs.Private.Places.{message_in, table_of, records_of}
use Rattle.ciff_read.specs.Reading.{DocsRead, docs_at, inserted, docs_in_order}
use Rattle.ciff_read.specs.Refusals.{◌>>=◌}
use Rattle.ciff_read.proofs.Answering.{fails_on}
use Rattle.ciff_read.specs.Private.Table.{values_of, table_with}
use Rattle.ciff_read.proofs.Numbered.{docs_from, length_from}
use Rattle.ciff_read.proofs.Sequences.{docs_end, docs_message_not, docs_doc_not, docs_on, end_there}
use Rattle.ciff_read.proofs.Tables.{map-values}
use Rattle.ciff_read.proofs.collection.read_documents.Goals as goal

pub returns-in_err-body-clause-exact : goal.returns-in_err-body-clause-exact
returns-in_err-body-clause-exact c =
    let total = docs_at c.args.count c.args.count [] c.args.from (drop c.args.from c.args.bytes.now) in
    let more : c.args.count - c.documents.counter ≡ suc (c.args.count - (c.documents.counter + 1)) = omega arith in
    let out : c.from_residual.result ≡ Err c.in_err-body.field-0.0 = search rules in
    rw out (fails_on c.in_err-body.field-0.0 total (λ x. Ok (docs_in_order x)) (docs_message_not total (c.args.count - c.documents.counter) c.args.count
    (records_of c.documents.documents) c.documents.at (drop c.documents.at c.args.bytes.now) c.documents.invariant.read
    (c.args.count - (c.documents.counter + 1)) more c.in_err-body.field-0.0 c.in_err-body.ensures))

pub returns-in_err-read_document-clause-exact : goal.returns-in_err-read_document-clause-exact
returns-in_err-read_document-clause-exact c =
    let total = docs_at c.args.count c.args.count [] c.args.from (drop c.args.from c.args.bytes.now) in
    let more : c.args.count - c.documents.counter ≡ suc (c.args.count - (c.documents.counter + 1)) = omega arith in
    let out : c.from_residual-in_err-read_document.result ≡ Err c.in_err-read_document.field-0.0 = search rules in
    rw out (fails_on c.in_err-read_document.field-0.0 total (λ x. Ok (docs_in_order x))
    (docs_doc_not total (c.args.count - c.documents.counter) c.args.count (records_of c.documents.documents) c.documents.at
    (drop c.documents.at c.args.bytes.now) c.documents.invariant.read (c.args.count - (c.documents.counter + 1)) more
    (message_in c.args.bytes.now c.in_ok-body.body) c.in_ok-body.ensures.0 c.in_err-read_document.field-0.0 c.in_err-read_document.ensures.exact))

pub documents-preserved : goal.documents-preserved
documents-preserved c =
    let total = docs_at c.args.count c.args.count [] c.args.from (drop c.args.from c.args.bytes.now) in
    let left = c.args.count - (c.documents.counter + 1) in
    let more : c.args.count - c.documents.counter ≡ suc left = omega arith in
    let put = c.in_ok-read_document.ensures.exact in
    let x = put.0 in
    let rest = drop c.in_ok-body.body.end c.args.bytes.now in
    record {
      read = docs_on total (c.args.count - c.documents.counter) c.args.count (records_of c.documents.documents) c.documents.at (drop c.documents.at c.args.bytes.now) c.documents.invariant.read left more (message_in c.args.bytes.now c.in_ok-body.body) c.in_ok-body.ensures.0 x put.1
          ∙ ap (λ n. docs_at left c.args.count (inserted x (records_of c.documents.documents)) n rest) (end_there c.args.bytes.now c.in_ok-body.body c.in_ok-body.ensures.2)
          ∙ ap (λ (rs : List NumberedDoc). docs_at left c.args.count rs c.in_ok-body.body.end rest) (sym put.2);
      marked = c.in_ok-read_document.ensures.marked;
      within = c.in_ok-body.ensures.2;
      count = c.in_ok-read_document.ensures.one ∙ omega (arith, c.documents.invariant.count);
    }

pub returns-in-Ok-clause-exact : goal.returns-in-Ok-clause-exact
returns-in-Ok-clause-exact c =
    let total = docs_at c.args.count c.args.count [] c.args.from (drop c.args.from c.args.bytes.now) in
    let none : c.args.count - c.documents.counter ≡ 0 = omega arith in
    let table = table_with c.documents.documents.records.items in
    ap (λ (r : Result DocsRead CiffRefusal). r >>= λ x. Ok (docs_in_order x)) (docs_end total (c.args.count - c.documents.counter) c.args.count (records_of c.documents.documents) c.documents.at (drop c.documents.at c.args.bytes.now) c.documents.invariant.read none)
    ∙ ap (λ (ds : List DocData). Ok (record { docs = ds; at = c.documents.at; rest = drop c.documents.at c.args.bytes.now })) (docs_from 0 (table_of c.documents.documents) ∙ map-values doc_data table ∙ ap (λ (ds : List DocRecord). map doc_data ds) (sym c.in-Ok.ensures))

pub returns-in-Ok-clause-count : goal.returns-in-Ok-clause-count
returns-in-Ok-clause-count c =
    let table = table_with c.documents.documents.records.items in
    ap (λ (rs : List DocRecord). length rs) c.in-Ok.ensures ∙ sym (length_from (table_of c.documents.documents) ∙ ap (λ (ds : List DocData). length ds) (map-values doc_data table) ∙ length-map (values_of table) doc_data) ∙ c.documents.invariant.count ∙ omega arith
