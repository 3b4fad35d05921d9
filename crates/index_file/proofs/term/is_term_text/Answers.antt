use Rattle.shared_lemmas.proofs.Common.{◌≡◌, true, nat_le, length, arith, nat_tests}
use Rattle.index_file.proofs.PlainTexts.{plain_text}
use Rattle.index_file.proofs.term.is_term_text.Goals as goal

pub returns-then-is_plain : goal.returns-then-is_plain
returns-then-is_plain c =
    let short : nat_le (length c.args.bytes.now) 65535 ≡ true = grind (arith, nat_tests, c.if-bytes-le-LONGEST_TERM.true) in
    rw (short, plain_text c.args.bytes.now (c.is_plain.ensures c.if-is_plain.true)) c.if-is_plain.true
