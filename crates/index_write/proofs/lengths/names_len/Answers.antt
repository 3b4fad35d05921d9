use Rattle.shared_lemmas.proofs.Common.{arith, ap, refl, length, drop, ◌+◌, length-append}
use Rattle.index_layout.specs.Layout.{name_bytes, names_bytes}
use Rattle.index_write.proofs.Bounds.{name_size}
use Rattle.index_write.proofs.Memory.{next_at}
use Rattle.index_write.proofs.lengths.names_len.Goals as goal

pub loop-name-preserved : goal.loop-name-preserved
loop-name-preserved c =
    let names = c.args.names.now in
    let i = c.loop-name.name-index in
    let name = c.name-item.result in
    let step = ap (λ ns. length (names_bytes ns)) (next_at names names i name refl c.loop-name-test.true c.name-item.is) in
    omega (arith, step, length-append (name_bytes name) (names_bytes (drop (i + 1) names)), name_size name, ap length c.as_str.ensures.bytes, c.loop-name.invariant)
