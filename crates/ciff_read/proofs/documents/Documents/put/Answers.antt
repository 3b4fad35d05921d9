use Rattle.std.proofs.Common.{ℕ, Bool, List, Option, ◌∙◌, ap, sym, ◌||◌, nat_eq}
use Rattle.jass_base.specs.declared.doc_record.DocRecord.{DocRecord}
use Rattle.ciff_read.specs.Private.Table.{has_value, table_with}
use Rattle.ciff_read.proofs.Tables.{has-with, table-more}
use Rattle.ciff_read.proofs.documents.Documents.put.Goals as goal

pub returns-clause-marked : goal.returns-clause-marked
returns-clause-marked c =
    λ n. c.in_ok-insert.ensures n ∙ ap (λ (t : Bool). nat_eq n c.args.doc || t) (c.requires n)
    ∙ sym (
    ap (λ (es : List (ℕ × DocRecord)). has_value (table_with es) n) c.in_ok-push.ensures.items
    ∙ ap (λ (t : List (Option DocRecord)). has_value t n) (table-more c.args.self.now.records.items (c.args.doc, c.args.entry))
    ∙ has-with (table_with c.args.self.now.records.items) c.args.doc n c.args.entry
    )
