use Rattle.index_write.proofs.Sending.{adds_none, adds_then, adds_pushed}
use Rattle.index_write.proofs.pieces.put_text.Goals as goal

pub returns-then-text : goal.returns-then-text
returns-then-text g c = adds_then g.C.Cabinet c.args.name.now c.args.head.now c.args.text.now c.put.ensures c.send_behind.ensures.adds

pub returns : goal.returns
returns g c =
    adds_then g.C.Cabinet c.args.name.now c.args.head.now c.args.text.now (adds_pushed g.C.Cabinet c.args.name.now c.args.head.now c.make_room.ensures.same c.push.ensures)
    (adds_pushed g.C.Cabinet c.args.name.now c.args.text.now (adds_none g.C.Cabinet c.args.name.now c.make_room.new.files c.push.new.self) c.push-2.ensures)
