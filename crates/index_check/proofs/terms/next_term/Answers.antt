use Rattle.std.proofs.Common.{ap, sym, ◌∙◌, arith}
use Rattle.index_layout.specs.Reading.{term_end}
use Rattle.index_check.specs.Private.Answers.{before_of, moved}
use Rattle.index_file.specs.Pieces.{IsPiece}
use Rattle.index_check.specs.Private.Pieces.{Holds}
use Rattle.index_check.proofs.Judging.{stops_moved}
use Rattle.index_file.proofs.ContentReads.{content_same}
use Rattle.index_file.proofs.Stopping.{stops_as}
use Rattle.index_check.proofs.TermMoves.{term_moved, term_small, term_there}
use Rattle.index_check.proofs.TermRooms.{room_there}
use Rattle.index_check.proofs.terms.next_term.Goals as goal

pub returns-in-Ok-clause-exact : goal.returns-in-Ok-clause-exact
returns-in-Ok-clause-exact g c = λ content is holds.
    let at = c.args.at in
    let room = c.term_room-room.result in
    let one : Holds content c.reach.new.self = (c.in_ok-reach.ensures.shown content is holds.0, c.in_ok-reach.ensures.size ∙ holds.1) in
    let first : IsPiece content at 4 c.from.result.now = c.from.ensures.piece content 4 one (c.in_ok-reach.ensures.reached content is holds.0) in
    let then = content_same (g.C.Cabinet.told c.args.files.now) (g.C.Cabinet.told c.reach.new.files) c.args.name.now content (sym c.in_ok-reach.ensures.reads.stays) is in
    let two : Holds content c.reach-2.new.self = (c.in_ok-reach-2.ensures.shown content then one.0, c.in_ok-reach-2.ensures.size ∙ one.1) in
    let piece : IsPiece content at room c.from-2.result.now = c.from-2.ensures.piece content room two (c.in_ok-reach-2.ensures.reached content then one.0) in
    let told = room_there content c.from.result.now at room first c.term_room-room.ensures.room in
    let before = before_of c.args.is_first c.args.term.now in
    term_moved content c.from-2.result.now before at room piece c.term_room-room.ensures.most.0 told ∙ ap (moved at) c.in-Ok.ensures.exact

pub returns-in-Ok-clause-term : goal.returns-in-Ok-clause-term
returns-in-Ok-clause-term g c = λ content is holds.
    let at = c.args.at in
    let room = c.term_room-room.result in
    let one : Holds content c.reach.new.self = (c.in_ok-reach.ensures.shown content is holds.0, c.in_ok-reach.ensures.size ∙ holds.1) in
    let first : IsPiece content at 4 c.from.result.now = c.from.ensures.piece content 4 one (c.in_ok-reach.ensures.reached content is holds.0) in
    let then = content_same (g.C.Cabinet.told c.args.files.now) (g.C.Cabinet.told c.reach.new.files) c.args.name.now content (sym c.in_ok-reach.ensures.reads.stays) is in
    let two : Holds content c.reach-2.new.self = (c.in_ok-reach-2.ensures.shown content then one.0, c.in_ok-reach-2.ensures.size ∙ one.1) in
    let piece : IsPiece content at room c.from-2.result.now = c.from-2.ensures.piece content room two (c.in_ok-reach-2.ensures.reached content then one.0) in
    let told = room_there content c.from.result.now at room first c.term_room-room.ensures.room in
    let before = before_of c.args.is_first c.args.term.now in
    c.in-Ok.ensures.term ∙ sym (term_there content c.from-2.result.now before at room c.in-Ok.size piece c.term_room-room.ensures.most.0 told c.in-Ok.ensures.exact).0

pub returns-in-Ok-clause-heads : goal.returns-in-Ok-clause-heads
returns-in-Ok-clause-heads g c = λ content is holds.
    let at = c.args.at in
    let room = c.term_room-room.result in
    let one : Holds content c.reach.new.self = (c.in_ok-reach.ensures.shown content is holds.0, c.in_ok-reach.ensures.size ∙ holds.1) in
    let first : IsPiece content at 4 c.from.result.now = c.from.ensures.piece content 4 one (c.in_ok-reach.ensures.reached content is holds.0) in
    let then = content_same (g.C.Cabinet.told c.args.files.now) (g.C.Cabinet.told c.reach.new.files) c.args.name.now content (sym c.in_ok-reach.ensures.reads.stays) is in
    let two : Holds content c.reach-2.new.self = (c.in_ok-reach-2.ensures.shown content then one.0, c.in_ok-reach-2.ensures.size ∙ one.1) in
    let piece : IsPiece content at room c.from-2.result.now = c.from-2.ensures.piece content room two (c.in_ok-reach-2.ensures.reached content then one.0) in
    let told = room_there content c.from.result.now at room first c.term_room-room.ensures.room in
    let before = before_of c.args.is_first c.args.term.now in
    c.in-Ok.ensures.heads ∙ sym (term_there content c.from-2.result.now before at room c.in-Ok.size piece c.term_room-room.ensures.most.0 told c.in-Ok.ensures.exact).1

pub returns-in-Err-clause-exact : goal.returns-in-Err-clause-exact
returns-in-Err-clause-exact g c = λ content is holds.
    let at = c.args.at in
    let room = c.term_room-room.result in
    let one : Holds content c.reach.new.self = (c.in_ok-reach.ensures.shown content is holds.0, c.in_ok-reach.ensures.size ∙ holds.1) in
    let first : IsPiece content at 4 c.from.result.now = c.from.ensures.piece content 4 one (c.in_ok-reach.ensures.reached content is holds.0) in
    let then = content_same (g.C.Cabinet.told c.args.files.now) (g.C.Cabinet.told c.reach.new.files) c.args.name.now content (sym c.in_ok-reach.ensures.reads.stays) is in
    let two : Holds content c.reach-2.new.self = (c.in_ok-reach-2.ensures.shown content then one.0, c.in_ok-reach-2.ensures.size ∙ one.1) in
    let piece : IsPiece content at room c.from-2.result.now = c.from-2.ensures.piece content room two (c.in_ok-reach-2.ensures.reached content then one.0) in
    let told = room_there content c.from.result.now at room first c.term_room-room.ensures.room in
    let before = before_of c.args.is_first c.args.term.now in
    let bytes = c.from-2.result.now in
    rw c.moved.ensures (stops_as _ (term_end content before at) (moved at (term_end bytes before 0)) (term_moved content bytes before at room piece c.term_room-room.ensures.most.0 told)
    (stops_moved at c.in-Err.fault (term_end bytes before 0) c.in-Err.ensures.exact
    (λ r no. (let small = term_small bytes before r no in omega (arith, small, c.from-2.ensures.few, c.reach-2.ensures.size, c.reach.ensures.size, c.requires.few)))))
