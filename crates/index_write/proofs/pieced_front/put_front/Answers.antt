use Rattle.std.proofs.Common.{[], map, refl, subst, true}
use Rattle.index_write.proofs.Below.{front_bytes}
use Rattle.index_write.specs.Private.Pieces.{IsSent}
use Rattle.index_write.specs.Streaming.{entry_data}
use Rattle.index_write.proofs.Sending.{made, not_tried, unmade}
use Rattle.index_write.proofs.pieced_front.put_front.Goals as goal

pub returns-then-create : goal.returns-then-create
returns-then-create g c =
    let whole = front_bytes c.args.names.now (map entry_data c.args.entries.now) in
    unmade g.C.Cabinet c.args.name.now c.args.files.now c.create.new.files whole true refl (not_tried g.C.Cabinet c.args.name.now c.args.files.now c.create.new.files [] whole c.create.result c.if-create.true c.create.ensures)

pub returns-then-fill : goal.returns-then-fill
returns-then-fill g c =
    let whole = front_bytes c.args.names.now (map entry_data c.args.entries.now) in
    unmade g.C.Cabinet c.args.name.now c.args.files.now c.fill.new.files whole c.fill.result c.if-fill.true
    (c.fill.ensures c.args.files.now (subst (λ failed. IsSent g.C.Cabinet c.args.files.now c.create.new.files c.args.name.now failed []) c.if-create.false c.create.ensures))

pub returns : goal.returns
returns g c =
    let whole = front_bytes c.args.names.now (map entry_data c.args.entries.now) in
    made g.C.Cabinet c.args.name.now c.args.files.now c.fill.new.files whole c.fill.result c.if-fill.false
    (c.fill.ensures c.args.files.now (subst (λ failed. IsSent g.C.Cabinet c.args.files.now c.create.new.files c.args.name.now failed []) c.if-create.false c.create.ensures))
