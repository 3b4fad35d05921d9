use Rattle.std.proofs.Common.{ℕ, ◌++◌, ap, ◌∙◌}
use Rattle.ciff_write.proofs.Below.{HeaderData, header_data, number_spelling}
use Rattle.ciff_write.proofs.Fields.{six_put}
use Rattle.ciff_write.proofs.header.push_numbers.Goals as goal

pub returns-clause-bytes : goal.returns-clause-bytes
returns-clause-bytes c =
    let h : HeaderData = header_data c.args.header.now in
    six_put c.args.buffer.now c.push_number.new.buffer c.push_number-2.new.buffer c.push_number-3.new.buffer c.push_number-4.new.buffer c.push_number-5.new.buffer c.push_number-6.new.buffer
    (number_spelling 1 h.version) (number_spelling 2 c.args.lists) (number_spelling 3 c.args.docs) (number_spelling 4 h.total_lists) (number_spelling 5 h.total_docs) (number_spelling 6 h.total_terms)
    (c.push_number.ensures.bytes ∙ ap (λ (n : ℕ). c.args.buffer.now ++ number_spelling 1 n) c.from.ensures)
    c.push_number-2.ensures.bytes
    c.push_number-3.ensures.bytes
    (c.push_number-4.ensures.bytes ∙ ap (λ (n : ℕ). c.push_number-3.new.buffer ++ number_spelling 4 n) c.from-2.ensures)
    (c.push_number-5.ensures.bytes ∙ ap (λ (n : ℕ). c.push_number-4.new.buffer ++ number_spelling 5 n) c.from-3.ensures)
    c.push_number-6.ensures.bytes
