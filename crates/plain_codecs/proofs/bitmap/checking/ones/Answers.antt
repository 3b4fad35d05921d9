use Rattle.shared_lemmas.proofs.Common.{ap, sym, length, get_or, List, ℕ, ◌<◌, arith, ones-le}
use Rattle.plain_codecs.proofs.Bitmaps.{none_set, ones_more}
use Rattle.plain_codecs.proofs.bitmap.checking.ones.Goals as goal

pub loop-byte-init : goal.loop-byte-init
loop-byte-init c = (sym (ap (λ (xs : List ℕ). length xs) (none_set 0)), omega arith)

pub loop-byte-preserved : goal.loop-byte-preserved
loop-byte-preserved c =
    let byte : ℕ = get_or c.args.bytes.now c.loop-byte.byte-index 0 in
    let small : byte < 256 = omega (arith, c.type_inv.bytes c.loop-byte.byte-index) in
    let few = ones-le 8 byte small in
    let so_far = c.loop-byte.invariant in
    (omega (arith, so_far.0, ones_more c.set_bits_rise.ensures.parts c.args.bytes.now c.loop-byte.byte-index c.loop-byte-test.true small), omega (arith, so_far.1, few))
