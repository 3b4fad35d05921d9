use Rattle.shared_lemmas.proofs.Common.{◌≡◌, ℕ, List, ◌+◌, ◌*◌, ◌-◌, ◌/◌, ◌<◌, ◌≤◌, ◌^◌, ◌++◌, ap, ◌∙◌, arith, get_or, take, length}
use Rattle.jass_base.specs.Gaps.{docs_from}
use Rattle.codec_simple8.specs.Simple8.{width_of, fields, least_behind}
use Rattle.codec_simple8.proofs.Fours.{last_out, sixteen}
use Rattle.codec_simple8.proofs.LaneValues.{eight_behind, width_half, width_narrow}
use Rattle.codec_simple8.proofs.eights.put_sixteen.Goals as goal

-- what the last of the first eight tells
behind : (w filled values least : ℕ) (old out : List ℕ) → filled ≤ length old → take (filled + 8) out ≡ take filled old ++ docs_from least (fields w 8 values) → get_or out (filled + 7) 0 + 1 ≡ least_behind least (fields w 8 values)
behind w filled values least old out within docs =
    let place : filled + 7 ≡ filled + 8 - 1 = omega arith in
    let some : 0 < 8 = omega arith in
    ap (λ k. get_or out k 0 + 1) place ∙ last_out w 8 filled values least old out some within docs

pub overflow_add-behind-2 : goal.overflow_add-behind-2
overflow_add-behind-2 c =
    let narrow = width_narrow c.args.selector.number c.requires.from (omega (arith, c.requires.to)) in
    let is = behind (width_of c.args.selector.number) c.args.filled c.args.values c.args.least c.args.out.now c.put_eight.new.out (omega (arith, c.requires.room)) c.put_eight.ensures.docs in
    record { fits = omega (arith, is, eight_behind (width_of c.args.selector.number) c.args.values c.args.least narrow, c.requires.least) }

pub overflow_mul-rest : goal.overflow_mul-rest
overflow_mul-rest c = record { fits = omega (arith, c.width.ensures, width_half c.args.selector.number c.requires.from c.requires.to) }

pub overflow_shr-rest : goal.overflow_shr-rest
overflow_shr-rest c = omega (arith, c.width.ensures, width_half c.args.selector.number c.requires.from c.requires.to)

pub put_eight-requires-2-clause-least : goal.put_eight-requires-2-clause-least
put_eight-requires-2-clause-least c =
    let narrow = width_narrow c.args.selector.number c.requires.from (omega (arith, c.requires.to)) in
    let is = behind (width_of c.args.selector.number) c.args.filled c.args.values c.args.least c.args.out.now c.put_eight.new.out (omega (arith, c.requires.room)) c.put_eight.ensures.docs in
    omega (arith, is, eight_behind (width_of c.args.selector.number) c.args.values c.args.least narrow, c.requires.least)

pub returns-clause-docs : goal.returns-clause-docs
returns-clause-docs c =
    sixteen (width_of c.args.selector.number) c.args.filled c.args.values c.args.least (get_or c.put_eight.new.out (c.args.filled + 7) 0 + 1) (c.args.values / 2 ^ (8 * c.width.result))
    c.args.out.now c.put_eight.new.out c.put_eight-2.new.out (omega (arith, c.requires.room)) c.put_eight.ensures.docs
    (behind (width_of c.args.selector.number) c.args.filled c.args.values c.args.least c.args.out.now c.put_eight.new.out (omega (arith, c.requires.room)) c.put_eight.ensures.docs)
    (ap (λ w. c.args.values / 2 ^ (8 * w)) c.width.ensures) c.put_eight-2.ensures.docs
