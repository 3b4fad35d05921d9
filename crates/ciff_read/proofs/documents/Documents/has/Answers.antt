use Rattle.std.proofs.Common.{◌∙◌, sym}
use Rattle.ciff_read.specs.Private.Table.{table_with}
use Rattle.ciff_read.proofs.Numbered.{among_records}
use Rattle.ciff_read.proofs.documents.Documents.has.Goals as goal

pub returns : goal.returns
returns c = c.contains.ensures ∙ c.requires c.args.doc ∙ sym (among_records (table_with c.args.self.now.records.items) c.args.doc)
