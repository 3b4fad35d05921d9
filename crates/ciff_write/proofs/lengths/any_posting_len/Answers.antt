use Rattle.std.proofs.Common.{ℕ, ◌≡◌, length, ap, ◌∙◌, arith, length-append}
use Rattle.jass_base.specs.CiffText.{number_spelling}
use Rattle.ciff_write.proofs.lengths.any_posting_len.Goals as goal

pub returns-clause-len : goal.returns-clause-len
returns-clause-len c =
    let first : c.number_len.result ≡ length (number_spelling 1 c.args.gap) = c.number_len.ensures.len 1 (omega arith) ∙ ap (λ (n : ℕ). length (number_spelling 1 n)) c.from.ensures in
    let second : c.number_len-2.result ≡ length (number_spelling 2 c.args.tf) = c.number_len-2.ensures.len 2 (omega arith) ∙ ap (λ (n : ℕ). length (number_spelling 2 n)) c.from-2.ensures in
    omega (arith, first, second, length-append (number_spelling 1 c.args.gap) (number_spelling 2 c.args.tf))
