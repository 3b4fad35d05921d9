use Rattle.std.proofs.Common.{refl}
use Rattle.ciff_write.proofs.Below.{ListData, list_data, gather_cut, gather_then, gather_same}
use Rattle.ciff_write.proofs.Fields.{list_spelled}
use Rattle.ciff_write.proofs.postings_list.put_list.Goals as goal

pub returns-in_err-put_size : goal.returns-in_err-put_size
returns-in_err-put_size g c =
    let l : ListData = list_data c.args.list.now in
    gather_same (list_spelled l c.list_len.result l.term l.postings c.list_len.ensures refl refl) (gather_cut _ _ c.from_residual.ensures.0 c.in_err-put_size.ensures)

pub returns-in_err-put_text : goal.returns-in_err-put_text
returns-in_err-put_text g c =
    let l : ListData = list_data c.args.list.now in
    gather_same (list_spelled l c.list_len.result c.as_str.result.now l.postings c.list_len.ensures c.as_str.ensures.bytes refl) (gather_then _ _ c.in_ok-put_size.ensures (gather_cut _ _ c.from_residual-in_err-put_text.ensures.0 c.in_err-put_text.ensures))

pub returns-in_err-put_number : goal.returns-in_err-put_number
returns-in_err-put_number g c =
    let l : ListData = list_data c.args.list.now in
    gather_same (list_spelled l c.list_len.result c.as_str.result.now l.postings c.list_len.ensures c.as_str.ensures.bytes refl)
    (gather_then _ _ c.in_ok-put_size.ensures (gather_then _ _ c.in_ok-put_text.ensures (gather_cut _ _ c.from_residual-in_err-put_number.ensures.0 c.in_err-put_number.ensures)))

pub returns-in_err-put_number-2 : goal.returns-in_err-put_number-2
returns-in_err-put_number-2 g c =
    let l : ListData = list_data c.args.list.now in
    gather_same (list_spelled l c.list_len.result c.as_str.result.now l.postings c.list_len.ensures c.as_str.ensures.bytes refl)
    (gather_then _ _ c.in_ok-put_size.ensures (gather_then _ _ c.in_ok-put_text.ensures (gather_then _ _ c.in_ok-put_number.ensures (gather_cut _ _ c.from_residual-in_err-put_number-2.ensures.0 c.in_err-put_number-2.ensures))))

pub returns : goal.returns
returns g c =
    let l : ListData = list_data c.args.list.now in
    gather_same (list_spelled l c.list_len.result c.as_str.result.now c.as_slice.result.now c.list_len.ensures c.as_str.ensures.bytes c.as_slice.ensures)
    (gather_then _ _ c.in_ok-put_size.ensures (gather_then _ _ c.in_ok-put_text.ensures (gather_then _ _ c.in_ok-put_number.ensures (gather_then _ _ c.in_ok-put_number-2.ensures c.put_postings.ensures))))
