use Rattle.std.proofs.Common.{[], ◌++◌, ap}
use Rattle.index_write.proofs.Sending.{adds_then, adds_sent}
use Rattle.index_write.proofs.pieces.send_behind.Goals as goal

pub returns-clause-adds : goal.returns-clause-adds
returns-clause-adds g c =
    let bytes = c.args.bytes.now in
    adds_then g.C.Cabinet c.args.name.now [] bytes c.send.ensures.same
    (adds_sent g.C.Cabinet c.args.name.now bytes bytes c.failed.result c.append-failed.result (ap (λ w. w ++ bytes) c.send.ensures.none) c.clear.ensures.bytes c.failed.ensures c.clear.ensures.failed c.append-failed.ensures)
