-- The word ends at the first blank behind it.
use Rattle.std.proofs.Common.{◌∙◌, ◌∷◌, drop, length, sym, ap, subst, arith, rules}
use Rattle.session_desk.proofs.Below.{IsFirstByte, is_byte2, blank_runs}
use Rattle.session_desk.proofs.Wording.{word_there}
use Rattle.session_desk.proofs.words.next_word.Goals as goal

pub returns : goal.returns
returns c =
    let text = c.without_blanks-text.result.now in
    let first = subst (λ t. IsFirstByte (is_byte2 32 9) t c.memchr2.result) c.as_bytes.ensures.value c.memchr2.ensures in
    let found = word_there text c.memchr2.result c.unwrap_or-end.result first c.unwrap_or-end.ensures c.without_blanks-text.ensures.begins (search rules) in (
      sym c.without_blanks-text.ensures.runs ∙ found.0 ∙ ap (λ word. word ∷ blank_runs (drop c.unwrap_or-end.result text)) (sym c.split_at.ensures.front)
          ∙ ap (λ rest. c.split_at.result.0.now ∷ blank_runs rest) (sym c.split_at.ensures.back),
      omega (arith, found.1, ap length c.split_at.ensures.back, c.without_blanks-text.ensures.within),
    )
