use Rattle.std.proofs.Common.{◌≡◌, ℕ, List, length, ap, ◌∙◌, arith}
use Rattle.ciff_write.proofs.Below.{Posting, ListData, list_data, number_spelling, text_spelling, postings_spelling}
use Rattle.ciff_write.proofs.Fields.{four_long}
use Rattle.ciff_write.proofs.postings_list.list_len.Goals as goal

pub returns : goal.returns
returns c =
    let l : ListData = list_data c.args.list.now in
    let first : c.number_len.result ≡ length (number_spelling 2 l.df) = c.number_len.ensures.len 2 (omega arith) in
    let second : c.number_len-2.result ≡ length (number_spelling 3 l.cf) = c.number_len-2.ensures.len 3 (omega arith) in
    let third : c.text_len.result ≡ length (text_spelling 1 l.term) = c.text_len.ensures.len 1 (omega arith) ∙ ap (λ (t : List ℕ). length (text_spelling 1 t)) c.as_str.ensures.bytes in
    let fourth : c.postings_len.result ≡ length (postings_spelling 0 l.postings) = c.postings_len.ensures.len ∙ ap (λ (ps : List Posting). length (postings_spelling 0 ps)) c.as_slice.ensures in
    omega (arith, first, second, third, fourth, c.from.ensures, four_long (text_spelling 1 l.term) (number_spelling 2 l.df) (number_spelling 3 l.cf) (postings_spelling 0 l.postings))
