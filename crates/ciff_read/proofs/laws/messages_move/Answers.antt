use Rattle.ciff_read.proofs.Moving.{header_moved, list_moved, doc_moved}
use Rattle.ciff_read.proofs.WireLaws.{WireLaws}
use Rattle.ciff_read.proofs.laws.messages_move.Goals as goal

pub returns : goal.returns
returns c =
    let varints = c.varints_are_read.ensures in
    let fields = c.fields_are_read.ensures in
    let laws : WireLaws = record { varint_found = varints.found; varint_only = varints.only; field_found = fields.found; field_only = fields.only } in
    record {
      header = λ base at m n from body. header_moved base laws at m n from body;
      list = λ base at m n from body docs before terms. list_moved base laws at m n from body docs before terms;
      doc = λ base at m n from body docs numbers. doc_moved base laws at m n from body docs numbers;
    }
