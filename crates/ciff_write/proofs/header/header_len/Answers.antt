use Rattle.std.proofs.Common.{◌≡◌, ℕ, List, length, ap, ◌∙◌, arith}
use Rattle.ciff_write.proofs.Below.{HeaderData, header_data, number_spelling, text_spelling, eight_spelling}
use Rattle.ciff_write.proofs.Fields.{eight_long}
use Rattle.ciff_write.proofs.header.header_len.Goals as goal

pub returns : goal.returns
returns c =
    let h : HeaderData = header_data c.args.header.now in
    let of : ℕ → ℕ → ℕ = λ (i n : ℕ). length (number_spelling i n) in
    let first : c.number_len.result ≡ of 1 h.version = c.number_len.ensures.len 1 (omega arith) ∙ ap (of 1) c.from.ensures in
    let second : c.number_len-2.result ≡ of 2 c.args.lists = c.number_len-2.ensures.len 2 (omega arith) in
    let third : c.number_len-3.result ≡ of 3 c.args.docs = c.number_len-3.ensures.len 3 (omega arith) in
    let fourth : c.number_len-4.result ≡ of 4 h.total_lists = c.number_len-4.ensures.len 4 (omega arith) ∙ ap (of 4) c.from-2.ensures in
    let fifth : c.number_len-5.result ≡ of 5 h.total_docs = c.number_len-5.ensures.len 5 (omega arith) ∙ ap (of 5) c.from-3.ensures in
    let sixth : c.number_len-6.result ≡ of 6 h.total_terms = c.number_len-6.ensures.len 6 (omega arith) in
    let eighth : c.text_len.result ≡ length (text_spelling 8 h.description) = c.text_len.ensures.len 8 (omega arith) ∙ ap (λ (t : List ℕ). length (text_spelling 8 t)) c.as_str.ensures.bytes in
    let whole = eight_long (number_spelling 1 h.version) (number_spelling 2 c.args.lists) (number_spelling 3 c.args.docs) (number_spelling 4 h.total_lists) (number_spelling 5 h.total_docs) (number_spelling 6 h.total_terms) (eight_spelling 7 h.average) (text_spelling 8 h.description) in
    omega (arith, first, second, third, fourth, fifth, sixth, c.average_len-average.ensures.len, eighth, c.from-4.ensures, whole)
