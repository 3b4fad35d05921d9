use Rattle.std.proofs.Common.{◌≡◌, ℕ, List, [], ◌++◌, refl, ap, ◌∙◌, append_assoc}
use Rattle.ciff_write.proofs.Below.{HeaderData, header_data, number_spelling, eight_spelling, gather_cut, gather_then, gather_pushed, gather_same}
use Rattle.ciff_write.proofs.Fields.{header_spelled}
use Rattle.ciff_write.proofs.header.put_header.Goals as goal

pub returns-in_err-put_size : goal.returns-in_err-put_size
returns-in_err-put_size g c =
    let h : HeaderData = header_data c.args.header.now in
    gather_same (header_spelled h c.args.lists c.args.docs c.header_len.result h.description c.header_len.ensures refl) (gather_cut _ _ c.from_residual.ensures.0 c.in_err-put_size.ensures)

pub returns-in_err-make_room : goal.returns-in_err-make_room
returns-in_err-make_room g c =
    let h : HeaderData = header_data c.args.header.now in
    gather_same (header_spelled h c.args.lists c.args.docs c.header_len.result h.description c.header_len.ensures refl) (gather_then _ _ c.in_ok-put_size.ensures (gather_cut [] _ c.from_residual-in_err-make_room.ensures.0 c.in_err-make_room.ensures.text))

pub returns : goal.returns
returns g c =
    let h : HeaderData = header_data c.args.header.now in
    let numbers : List ℕ = number_spelling 1 h.version ++ number_spelling 2 c.args.lists ++ number_spelling 3 c.args.docs ++ number_spelling 4 h.total_lists ++ number_spelling 5 h.total_docs ++ number_spelling 6 h.total_terms in
    let average : List ℕ = eight_spelling 7 h.average in
    let pushed : c.push_average.new.buffer ≡ c.make_room.new.buffer ++ (numbers ++ average)
    = c.push_average.ensures ∙ ap (λ (s : List ℕ). s ++ average) c.push_numbers.ensures.bytes ∙ append_assoc c.make_room.new.buffer numbers average in
    gather_same (header_spelled h c.args.lists c.args.docs c.header_len.result c.as_str.result.now c.header_len.ensures c.as_str.ensures.bytes)
    (gather_then _ _ c.in_ok-put_size.ensures (gather_then _ _ {u = tt {0}} (gather_pushed (numbers ++ average) c.in_ok-make_room.ensures.text pushed) c.put_text.ensures))
