use Rattle.std.proofs.Common.{rules, arith, ◌∙◌, ◌*◌, ◌+◌, ◌≡◌, Err, [], refl}
use Rattle.index_layout.specs.Reading.{read_heads}
use Rattle.index_file.specs.Pieces.{IsPiece}
use Rattle.index_check.specs.Private.Pieces.{Holds}
use Rattle.index_file.proofs.ContentReads.{stops_unread}
use Rattle.index_check.proofs.HeadEnds.{heads_ended, heads_stopped}
use Rattle.index_check.proofs.terms.next_heads.Goals as goal

pub returns-in_err-reach-clause-exact : goal.returns-in_err-reach-clause-exact
returns-in_err-reach-clause-exact g c = λ content is holds.
    let out : c.from_residual.result ≡ Err c.in_err-reach.field-0.0 = search rules in
    rw out (stops_unread c.in_err-reach.field-0.0 (read_heads content c.args.docs c.args.count 65536 c.args.at) c.in_err-reach.ensures.unrefused)

pub returns-in-Ok-clause-exact : goal.returns-in-Ok-clause-exact
returns-in-Ok-clause-exact g c = λ content is holds.
    let held : Holds content c.reach.new.self = (c.in_ok-reach.ensures.shown content is holds.0, c.in_ok-reach.ensures.size ∙ holds.1) in
    let piece : IsPiece content c.args.at (11 * c.args.count) c.from.result.now = c.from.ensures.piece content (11 * c.args.count) held (c.in_ok-reach.ensures.reached content is holds.0) in
    heads_ended content c.from.result.now c.args.docs c.args.at (11 * c.args.count) c.args.count piece (omega arith) c.in-Ok.size c.args.sums.now c.read_heads.new.sums
    (record { postings = c.args.sums.now.postings + c.read_heads.new.sums.postings; greatest = c.max.result }) c.in-Ok.ensures.exact (c.in-Ok.ensures.sums [] (record { postings = refl; greatest = refl })) refl c.max.ensures

pub returns-in-Err-clause-exact : goal.returns-in-Err-clause-exact
returns-in-Err-clause-exact g c = λ content is holds.
    let held : Holds content c.reach.new.self = (c.in_ok-reach.ensures.shown content is holds.0, c.in_ok-reach.ensures.size ∙ holds.1) in
    let piece : IsPiece content c.args.at (11 * c.args.count) c.from.result.now = c.from.ensures.piece content (11 * c.args.count) held (c.in_ok-reach.ensures.reached content is holds.0) in
    rw c.moved.ensures (heads_stopped content c.from.result.now c.args.docs c.args.at (11 * c.args.count) c.args.count piece (omega arith) c.in-Err.fault (omega (arith, c.requires.at, c.requires.few, c.ranges.count.fits)) c.in-Err.ensures.exact)
