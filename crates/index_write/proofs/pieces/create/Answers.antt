use Rattle.index_write.proofs.Sending.{created, uncreated}
use Rattle.index_write.proofs.pieces.create.Goals as goal

pub returns-in-Ok : goal.returns-in-Ok
returns-in-Ok g c = created g.C.Cabinet c.args.name.now c.args.files.now c.create.new.self c.in-Ok.ensures.content c.in-Ok.ensures.cause.later c.in-Ok.ensures.others

pub returns-in-Err : goal.returns-in-Err
returns-in-Err g c = uncreated g.C.Cabinet c.args.name.now c.args.files.now c.create.new.self c.in-Err.ensures.content c.in-Err.ensures.cause.failed c.in-Err.ensures.cause.later c.in-Err.ensures.others
