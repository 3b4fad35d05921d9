use Rattle.index_write.proofs.Sending.{adds_pushed}
use Rattle.index_write.proofs.pieces.put.Goals as goal

pub returns : goal.returns
returns g c = adds_pushed g.C.Cabinet c.args.name.now c.args.bytes.now c.make_room.ensures.same c.push.ensures
