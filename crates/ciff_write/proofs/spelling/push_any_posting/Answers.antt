use Rattle.std.proofs.Common.{◌≡◌, List, ℕ, [], ◌∷◌, ◌++◌, ap, ◌∙◌, arith}
use Rattle.jass_base.specs.CiffText.{number_spelling}
use Rattle.ciff_write.proofs.Fields.{posting_put}
use Rattle.ciff_write.proofs.spelling.push_any_posting.Goals as goal

pub returns : goal.returns
returns c =
    let a : List ℕ = number_spelling 1 c.args.gap in
    let b : List ℕ = number_spelling 2 c.args.tf in
    let size : ℕ = c.any_posting_len.result in
    let with_size : c.push_byte-2.new.self ≡ (c.args.buffer.now ++ 34 ∷ []) ++ size ∷ [] = c.push_byte-2.ensures ∙ ap (λ (s : List ℕ). s ++ size ∷ []) c.push_byte.ensures in
    let with_gap : c.push_number.new.buffer ≡ ((c.args.buffer.now ++ 34 ∷ []) ++ size ∷ []) ++ a
    = c.push_number.ensures.bytes ∙ ap (λ (s : List ℕ). s ++ number_spelling 1 c.from.result) with_size ∙ ap (λ (n : ℕ). ((c.args.buffer.now ++ 34 ∷ []) ++ size ∷ []) ++ number_spelling 1 n) c.from.ensures in
    let with_tf : c.push_number-2.new.buffer ≡ (((c.args.buffer.now ++ 34 ∷ []) ++ size ∷ []) ++ a) ++ b
    = c.push_number-2.ensures.bytes ∙ ap (λ (s : List ℕ). s ++ number_spelling 2 c.from-2.result) with_gap ∙ ap (λ (n : ℕ). (((c.args.buffer.now ++ 34 ∷ []) ++ size ∷ []) ++ a) ++ number_spelling 2 n) c.from-2.ensures in
    with_tf ∙ posting_put c.args.buffer.now a b size c.any_posting_len.ensures.len (omega (arith, c.any_posting_len.ensures.few))
