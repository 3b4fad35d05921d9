use Rattle.std.proofs.Common.{◌≡◌, ℕ, List, length, ap, ◌∙◌, arith}
use Rattle.ciff_write.proofs.Below.{DocData, doc_data, number_spelling, text_spelling}
use Rattle.ciff_write.proofs.Fields.{three_long}
use Rattle.ciff_write.proofs.document.doc_len.Goals as goal

pub returns : goal.returns
returns c =
    let d : DocData = doc_data c.args.doc.now in
    let first : c.number_len.result ≡ length (number_spelling 1 c.args.number) = c.number_len.ensures.len 1 (omega arith) in
    let second : c.number_len-2.result ≡ length (number_spelling 3 d.length) = c.number_len-2.ensures.len 3 (omega arith) ∙ ap (λ (n : ℕ). length (number_spelling 3 n)) c.from.ensures in
    let third : c.text_len.result ≡ length (text_spelling 2 d.name) = c.text_len.ensures.len 2 (omega arith) ∙ ap (λ (t : List ℕ). length (text_spelling 2 t)) c.as_str.ensures.bytes in
    omega (arith, first, second, third, c.from-2.ensures, three_long (number_spelling 1 c.args.number) (text_spelling 2 d.name) (number_spelling 3 d.length))
