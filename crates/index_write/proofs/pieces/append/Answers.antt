use Rattle.index_write.proofs.Sending.{not_tried, tried, tried_in_vain}
use Rattle.index_write.proofs.pieces.append.Goals as goal

pub returns-then-failed : goal.returns-then-failed
returns-then-failed g c = λ start text was. not_tried g.C.Cabinet c.args.name.now start c.args.files.now text c.args.bytes.now c.args.failed c.if-failed.true was

pub returns-in-Ok : goal.returns-in-Ok
returns-in-Ok g c = λ start text was.
    tried g.C.Cabinet c.args.name.now start c.args.files.now c.append.new.self text c.args.bytes.now c.in-Ok.ensures.cause.later c.in-Ok.ensures.others c.args.failed c.if-failed.false was c.in-Ok.ensures.content

pub returns-in-Err : goal.returns-in-Err
returns-in-Err g c = λ start text was.
    tried_in_vain g.C.Cabinet c.args.name.now start c.args.files.now c.append.new.self text c.args.bytes.now c.in-Err.ensures.cause.later c.in-Err.ensures.others c.args.failed c.if-failed.false was
    c.in-Err.ensures.content c.in-Err.ensures.cause.failed
