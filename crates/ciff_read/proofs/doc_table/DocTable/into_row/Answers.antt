use Rattle.std.proofs.Common.{◌∙◌, ◌∷◌, [], ◌++◌, ap, sym, List}
use Rattle.jass_base.specs.declared.doc_record.DocRecord.{DocRecord}
use Rattle.ciff_read.proofs.Tables.{values-some, values-none}
use Rattle.ciff_read.proofs.doc_table.DocTable.into_row.Goals as goal

pub records-preserved-in-Ok : goal.records-preserved-in-Ok
records-preserved-in-Ok c = c.in-Ok.ensures.ok ∙ ap (λ (rows : List DocRecord). rows ++ c.in-Some-entry.record ∷ []) c.records.invariant ∙ sym (values-some c.records.yielded c.in-Some.entry c.in-Some-entry.record c.in-Some-entry.is)

pub records-preserved : goal.records-preserved
records-preserved c = c.records.invariant ∙ sym (values-none c.records.yielded c.in-Some.entry c.in_default.is)
