use Rattle.std.proofs.Common.{rules, ◌≡◌, ◌-◌, ◌^◌, ◌≤◌, ◌∙◌, Err, arith, sym, ap, ℕ, List, length}
use Rattle.index_layout.specs.Reading.{payload_end}
use Rattle.index_file.specs.Contents.{Outside}
use Rattle.index_file.specs.Parts.{told}
use Rattle.index_file.specs.Pieces.{IsPiece}
use Rattle.index_check.specs.Private.Pieces.{Holds}
use Rattle.index_check.proofs.PayloadMoves.{payload_docs}
use Rattle.index_file.proofs.ContentReads.{reads_else, stops_unread}
use Rattle.index_check.proofs.SegmentMoves.{marked_docs, marks_are, next_marks, next_stops, next_there, marks_unread}
use Rattle.index_check.proofs.segments.next_payload.Goals as goal

pub returns-in_err-reach-clause-exact : goal.returns-in_err-reach-clause-exact
returns-in_err-reach-clause-exact g c = λ content earlier is holds counted are.
    let out : c.from_residual.result ≡ Err c.in_err-reach.field-0.0 = search rules in
    rw out (stops_unread c.in_err-reach.field-0.0 (payload_end content c.args.docs earlier (told c.args.head) c.args.at) c.in_err-reach.ensures.unrefused)

pub returns-in-Ok-clause-exact : goal.returns-in-Ok-clause-exact
returns-in-Ok-clause-exact g c = λ content earlier is holds counted are.
    let held : Holds content c.reach.new.self = (c.in_ok-reach.ensures.shown content is holds.0, c.in_ok-reach.ensures.size ∙ holds.1) in
    let piece : IsPiece content c.args.at c.args.head.size c.from.result.now = c.from.ensures.piece content c.args.head.size held (c.in_ok-reach.ensures.reached content is holds.0) in
    next_there content c.from.result.now c.args.at c.args.docs earlier (told c.args.head) piece (c.in-Ok.ensures.exact earlier are)

pub returns-in-Ok-clause-marks : goal.returns-in-Ok-clause-marks
returns-in-Ok-clause-marks g c = λ content earlier is holds are.
    let held : Holds content c.reach.new.self = (c.in_ok-reach.ensures.shown content is holds.0, c.in_ok-reach.ensures.size ∙ holds.1) in
    let piece : IsPiece content c.args.at c.args.head.size c.from.result.now = c.from.ensures.piece content c.args.head.size held (c.in_ok-reach.ensures.reached content is holds.0) in
    next_marks content c.from.result.now c.args.at c.args.docs earlier (told c.args.head) piece c.args.now c.check_apart.new.marks c.in-Ok.ensures.payload.within (c.in-Ok.ensures.marks earlier are)

pub returns-in-Ok-clause-most : goal.returns-in-Ok-clause-most
returns-in-Ok-clause-most g c = (c.in-Ok.ensures.marks (marked_docs c.args.now 0 c.args.marks.now) (marks_are c.args.now c.args.marks.now c.requires.most)).most

pub returns-in-Err-clause-exact : goal.returns-in-Err-clause-exact
returns-in-Err-clause-exact g c = λ content earlier is holds counted are.
    let held : Holds content c.reach.new.self = (c.in_ok-reach.ensures.shown content is holds.0, c.in_ok-reach.ensures.size ∙ holds.1) in
    let piece : IsPiece content c.args.at c.args.head.size c.from.result.now = c.from.ensures.piece content c.args.head.size held (c.in_ok-reach.ensures.reached content is holds.0) in
    rw c.moved.ensures (next_stops content c.from.result.now c.args.at c.args.docs earlier (told c.args.head) piece c.in-Err.fault (let most : c.args.at ≤ 2 ^ 64 - 1 = omega (arith, c.requires.at, c.requires.few) in most) (c.in-Err.ensures.exact earlier are))

pub returns-in-Err-clause-reads : goal.returns-in-Err-clause-reads
returns-in-Err-clause-reads g c =
    let before : Outside = record { told = g.C.Cabinet.told c.args.files.now; read_faults = g.C.Cabinet.read_faults c.args.files.now; write_faults = g.C.Cabinet.write_faults c.args.files.now } in
    let after : Outside = record { told = g.C.Cabinet.told c.reach.new.files; read_faults = g.C.Cabinet.read_faults c.reach.new.files; write_faults = g.C.Cabinet.write_faults c.reach.new.files } in
    reads_else before after c.args.name.now c.in_ok-reach.field-0 c.moved.result
    (λ same. marks_unread c.from.result.now c.args.at c.args.docs c.args.now (told c.args.head) c.args.marks.now c.in-Err.fault c.requires.most c.in-Err.ensures.exact (sym c.moved.ensures ∙ same)) c.in_ok-reach.ensures.reads

pub returns-in-Ok-clause-docs : goal.returns-in-Ok-clause-docs
returns-in-Ok-clause-docs g c = λ content is holds.
    let held : Holds content c.reach.new.self = (c.in_ok-reach.ensures.shown content is holds.0, c.in_ok-reach.ensures.size ∙ holds.1) in
    let piece : IsPiece content c.args.at c.args.head.size c.from.result.now = c.from.ensures.piece content c.args.head.size held (c.in_ok-reach.ensures.reached content is holds.0) in
    let within : c.args.head.size ≤ length c.from.result.now = omega (arith, c.in-Ok.ensures.payload.within) in
    ap (λ (docs : List ℕ). length docs) (payload_docs content c.from.result.now c.args.at c.args.head.size c.args.docs (told c.args.head) piece within) ∙ c.in-Ok.ensures.payload.count
