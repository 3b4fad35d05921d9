use Rattle.shared_lemmas.proofs.Common.{◌+◌, ◌/◌, ◌%◌, ◌*◌, ◌&&◌, ℕ, bit_and, refl, arith, nat_le, nat_lt, and_parts, leb-true, ltb-true}
use Rattle.plain_codecs.proofs.ShortGaps.{short_read}
use Rattle.plain_codecs.proofs.varbyte.short.short_gap.Goals as goal

pub returns-clause-gap : goal.returns-clause-gap
returns-clause-gap c = λ is end inside.
    let at = c.args.at in
    let bytes = c.args.bytes.now in
    let first : ℕ = c.from-first.result in
    let second : ℕ = c.from-second.result in
    let third : ℕ = c.from-third.result in
    let two : ℕ = first / 128 in
    let three : ℕ = bit_and two (second / 128) in
    let high : ℕ = three * third in
    let all = and_parts (nat_lt high 128 && nat_le three third) (nat_le two second) is in
    let front = and_parts (nat_lt high 128) (nat_le three third) all.0 in
    short_read bytes at end first second third two three (two * (second % 128)) high c.requires
    c.from-first.ensures c.from-second.ensures c.from-third.ensures
    (omega (arith, c.from-first.ensures, c.type_inv.bytes at)) (omega (arith, c.from-second.ensures, c.type_inv.bytes (at + 1)))
    refl refl refl refl (ltb-true high 128 front.0) (leb-true three third front.1) (leb-true two second all.1) inside
