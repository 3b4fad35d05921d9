-- A character begins behind a blank.
use Rattle.shared_lemmas.proofs.Common.{arith, rules, IsCharBoundary-after_ascii}
use Rattle.session_desk.proofs.Wording.{small_first}
use Rattle.session_desk.proofs.words.begins_with_blank.Goals as goal

pub returns-then-byte-eq32-clause-behind : goal.returns-then-byte-eq32-clause-behind
returns-then-byte-eq32-clause-behind c is =
    let small = small_first c.args.text.now c.as_bytes.result.now c.in-Some.byte.now c.as_bytes.ensures.value (search rules) (omega (arith, c.if-byte-eq32.true)) in
    IsCharBoundary-after_ascii c.args.text.now 0 (search rules) small.0 small.1

pub returns-else-byte-eq32-clause-behind : goal.returns-else-byte-eq32-clause-behind
returns-else-byte-eq32-clause-behind c is =
    let small = small_first c.args.text.now c.as_bytes.result.now c.in-Some.byte.now c.as_bytes.ensures.value (search rules) (search rules) in
    IsCharBoundary-after_ascii c.args.text.now 0 (search rules) small.0 small.1
