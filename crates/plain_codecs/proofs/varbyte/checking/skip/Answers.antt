use Rattle.plain_codecs.proofs.Reading.{sixteen_fit, sixteen_over}
use Rattle.plain_codecs.proofs.varbyte.checking.skip.Goals as goal

pub returns-then-least-d-clause-fault : goal.returns-then-least-d-clause-fault
returns-then-least-d-clause-fault c =
    sixteen_over c.args.bytes.now c.in-Some.sixteen.now c.args.place.at c.args.place.least c.args.d c.args.count c.sum16.result
    c.if-count-eq16.true c.in-Some.ensures.bytes c.in-Some.ensures.within c.in-Some.ensures.small c.sum16.ensures.is c.requires.low c.if-least-d.true

pub returns-in-Some-clause-reads : goal.returns-in-Some-clause-reads
returns-in-Some-clause-reads c =
    sixteen_fit c.args.bytes.now c.in-Some.sixteen.now c.args.place.at c.args.place.least c.args.d c.args.count c.sum16.result
    c.if-count-eq16.true c.in-Some.ensures.bytes c.in-Some.ensures.within c.in-Some.ensures.small c.sum16.ensures.is c.if-least-d.false
