use Rattle.std.proofs.Common.{◌++◌, [], arith, ap, sym, subst, length, map}
use Rattle.index_write.proofs.Below.{names_bytes, terms_bytes, front_bytes}
use Rattle.index_write.specs.Private.Pieces.{IsSent}
use Rattle.index_write.specs.Streaming.{entry_data}
use Rattle.index_write.proofs.Bounds.{totals_size}
use Rattle.index_write.proofs.Joining.{front_joined}
use Rattle.index_write.proofs.Sending.{adds_same, adds_then, all_sent}
use Rattle.index_write.proofs.pieced_front.fill.Goals as goal

pub put-requires : goal.put-requires
put-requires g c = omega (arith, ap length c.requires.first, totals_size c.args.names.now (map entry_data c.args.entries.now))

pub returns : goal.returns
returns g c = λ start made.
    let names = names_bytes c.args.names.now in
    let terms = terms_bytes [] (map entry_data c.args.entries.now) in
    let whole = front_bytes c.args.names.now (map entry_data c.args.entries.now) in
    let name = c.args.name.now in
    let put = adds_same g.C.Cabinet name (front_joined c.args.names.now (map entry_data c.args.entries.now) c.args.first.now c.requires.first)
    (adds_then g.C.Cabinet name c.args.first.now (names ++ (terms ++ [])) c.put.ensures (adds_then g.C.Cabinet name names (terms ++ []) c.put_names.ensures (adds_then g.C.Cabinet name terms [] c.put_entries.ensures c.send.ensures.same))) in
    subst (λ failed. IsSent g.C.Cabinet start c.send.new.files name failed whole) (sym c.failed.ensures)
    (all_sent g.C.Cabinet name whole c.new-pieces.ensures.bytes c.new-pieces.ensures.failed made put c.send.ensures.none)
