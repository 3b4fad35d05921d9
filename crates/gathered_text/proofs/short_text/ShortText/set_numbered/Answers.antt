use Rattle.std.proofs.Common.{ℕ, List, length, take, decimal, arith, ap, ◌∙◌}
use Rattle.shared_lemmas.proofs.Common.{length-decimal-le}
use Rattle.gathered_text.proofs.short_text.ShortText.set_numbered.Goals as goal

pub put_text-self-inside-requires : goal.put_text-self-inside-requires
put_text-self-inside-requires c =
    let digits = length-decimal-le 10 c.args.number (omega arith) (omega (arith, c.ranges.number.fits)) (omega (arith, c.ranges.number.fits)) in
    let same = ap (λ n. length (decimal n)) c.from.ensures in
    let size = ap (λ n. length (take n c.row.result.now)) c.len.ensures.count ∙ ap (λ (xs : List ℕ). length xs) c.row.ensures in
    omega (arith, c.put_number-numbered.ensures.end, same, c.put_byte-at.ensures.end, digits, size, c.requires)
