-- One name more.
use Rattle.std.proofs.Common.{ℕ, List, ap}
use Rattle.jass_base.specs.CiffViews.{doc_data}
use Rattle.jass_base.specs.Ciff.{DocData}
use Rattle.index_export.specs.Private.Gathering.{name_records}
use Rattle.index_export.proofs.Steps.{there, one_more}
use Rattle.index_export.proofs.documents.records_of.Goals as goal

pub loop-doc-preserved : goal.loop-doc-preserved
loop-doc-preserved c =
    let named : List ℕ → DocData = λ (name : List ℕ). record { name = name; length = 0 } in
    let names : List (List ℕ) = c.args.index.now.index.names in
    one_more doc_data named c.loop-doc.docs c.push.new.self _ names c.loop-doc.doc c.name.result.now (name_records names)
    (there names c.loop-doc.doc c.name.result.now c.name.ensures) c.in_ok-push.ensures.ok (ap named c.in_ok-name.ensures.bytes) c.loop-doc.invariant
