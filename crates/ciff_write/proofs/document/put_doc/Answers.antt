use Rattle.std.proofs.Common.{refl}
use Rattle.ciff_write.proofs.Below.{DocData, doc_data, gather_cut, gather_then, gather_same}
use Rattle.ciff_write.proofs.Fields.{doc_spelled}
use Rattle.ciff_write.proofs.document.put_doc.Goals as goal

pub returns-in_err-put_size : goal.returns-in_err-put_size
returns-in_err-put_size g c =
    let d : DocData = doc_data c.args.doc.now in
    gather_same (doc_spelled c.args.number d c.doc_len.result d.name d.length c.doc_len.ensures refl refl) (gather_cut _ _ c.from_residual.ensures.0 c.in_err-put_size.ensures)

pub returns-in_err-put_number : goal.returns-in_err-put_number
returns-in_err-put_number g c =
    let d : DocData = doc_data c.args.doc.now in
    gather_same (doc_spelled c.args.number d c.doc_len.result d.name d.length c.doc_len.ensures refl refl) (gather_then _ _ c.in_ok-put_size.ensures (gather_cut _ _ c.from_residual-in_err-put_number.ensures.0 c.in_err-put_number.ensures))

pub returns-in_err-put_text : goal.returns-in_err-put_text
returns-in_err-put_text g c =
    let d : DocData = doc_data c.args.doc.now in
    gather_same (doc_spelled c.args.number d c.doc_len.result c.as_str.result.now d.length c.doc_len.ensures c.as_str.ensures.bytes refl)
    (gather_then _ _ c.in_ok-put_size.ensures (gather_then _ _ c.in_ok-put_number.ensures (gather_cut _ _ c.from_residual-in_err-put_text.ensures.0 c.in_err-put_text.ensures)))

pub returns : goal.returns
returns g c =
    let d : DocData = doc_data c.args.doc.now in
    gather_same (doc_spelled c.args.number d c.doc_len.result c.as_str.result.now c.from.result c.doc_len.ensures c.as_str.ensures.bytes c.from.ensures)
    (gather_then _ _ c.in_ok-put_size.ensures (gather_then _ _ c.in_ok-put_number.ensures (gather_then _ _ c.in_ok-put_text.ensures c.put_number-2.ensures)))
