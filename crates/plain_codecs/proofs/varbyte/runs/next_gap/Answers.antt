use Rattle.std.proofs.Common.{◌+◌, ◌*◌, ◌/◌, ◌%◌, ℕ, refl, arith}
use Rattle.plain_codecs.proofs.ShortGaps.{known_short}
use Rattle.plain_codecs.proofs.varbyte.runs.next_gap.Goals as goal

pub returns-then-first-second-clause-value : goal.returns-then-first-second-clause-value
returns-then-first-second-clause-value c =
    let at = c.args.at in
    let first : ℕ = c.from-first.result in
    let second : ℕ = c.from-second.result in
    let two : ℕ = first / 128 in
    known_short c.args.bytes.now at first second two (first % 128 + two * second * 128) (at + 1 + two) (omega (arith, c.if-bytes-at-ge2.true))
    c.from-first.ensures c.from-second.ensures (omega (arith, c.from-first.ensures, c.type_inv.bytes at)) refl refl refl c.requires.known c.if-first-second.true
