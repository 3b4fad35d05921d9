use Rattle.std.proofs.Common.{◌++◌, ◌+◌, ◌∙◌, arith, ap, sym, refl, drop}
use Rattle.std.proofs.lemmas.List.{drop_all}
use Rattle.index_layout.specs.Layout.{name_bytes}
use Rattle.index_write.proofs.Below.{names_bytes}
use Rattle.index_write.proofs.Memory.{next_at}
use Rattle.index_write.proofs.Sending.{up_to_more, up_to_all}
use Rattle.index_write.proofs.pieced_front.put_names.Goals as goal

pub loop-name-preserved : goal.loop-name-preserved
loop-name-preserved g c =
    let names = c.args.names.now in
    let i = c.loop-name.name-index in
    let next = next_at names names i c.name-item.result refl c.loop-name-test.true c.name-item.is in
    up_to_more g.C.Cabinet c.args.file.now (names_bytes (drop i names)) (name_bytes c.as_str.result.now) (names_bytes (drop (i + 1) names))
    (ap names_bytes next ∙ ap (λ name. name_bytes name ++ names_bytes (drop (i + 1) names)) (sym c.as_str.ensures.bytes)) c.loop-name.invariant c.put_name.ensures

pub returns : goal.returns
returns g c =
    up_to_all g.C.Cabinet c.args.file.now (names_bytes (drop c.loop-name.name-index c.args.names.now)) (ap names_bytes (drop_all c.loop-name.name-index c.args.names.now (omega (arith, c.loop-name-test.false)))) c.loop-name.invariant
