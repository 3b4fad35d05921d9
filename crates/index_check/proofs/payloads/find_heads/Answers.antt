use Rattle.std.proofs.Common.{sym, ◌∙◌, ◌+◌, ◌*◌, ◌≤◌, length, arith}
use Rattle.index_file.specs.Pieces.{IsPiece}
use Rattle.index_check.specs.Private.Pieces.{Holds}
use Rattle.index_file.proofs.ContentReads.{content_same}
use Rattle.index_check.proofs.TermRooms.{heads_found, heads_held, term_held}
use Rattle.index_check.proofs.payloads.find_heads.Goals as goal

pub returns-then-bytes-room-clause-refused : goal.returns-then-bytes-room-clause-refused
returns-then-bytes-room-clause-refused g c = λ content is holds fits.
    let at = c.args.at in
    let room = c.term_room-room.result in
    let one : Holds content c.reach.new.self = (c.in_ok-reach.ensures.shown content is holds.0, c.in_ok-reach.ensures.size ∙ holds.1) in
    let first : IsPiece content at 4 c.from.result.now = c.from.ensures.piece content 4 one (c.in_ok-reach.ensures.reached content is holds.0) in
    let then = content_same (g.C.Cabinet.told c.args.files.now) (g.C.Cabinet.told c.reach.new.files) c.args.name.now content (sym c.in_ok-reach.ensures.reads.stays) is in
    let two : Holds content c.reach-2.new.self = (c.in_ok-reach-2.ensures.shown content then one.0, c.in_ok-reach-2.ensures.size ∙ one.1) in
    let piece : IsPiece content at room c.from-bytes.result.now = c.from-bytes.ensures.piece content room two (c.in_ok-reach-2.ensures.reached content then one.0) in
    absurd (term_held content c.from-bytes.result.now c.from.result.now at room first c.term_room-room.ensures.room piece fits (omega (arith, c.if-bytes-room.true)))

pub returns-then-from-size-clause-refused : goal.returns-then-from-size-clause-refused
returns-then-from-size-clause-refused g c = λ content is holds fits.
    let at = c.args.at in
    let room = c.term_room-room.result in
    let one : Holds content c.reach.new.self = (c.in_ok-reach.ensures.shown content is holds.0, c.in_ok-reach.ensures.size ∙ holds.1) in
    let first : IsPiece content at 4 c.from.result.now = c.from.ensures.piece content 4 one (c.in_ok-reach.ensures.reached content is holds.0) in
    let then = content_same (g.C.Cabinet.told c.args.files.now) (g.C.Cabinet.told c.reach.new.files) c.args.name.now content (sym c.in_ok-reach.ensures.reads.stays) is in
    let two : Holds content c.reach-2.new.self = (c.in_ok-reach-2.ensures.shown content then one.0, c.in_ok-reach-2.ensures.size ∙ one.1) in
    let piece : IsPiece content at room c.from-bytes.result.now = c.from-bytes.ensures.piece content room two (c.in_ok-reach-2.ensures.reached content then one.0) in
    let bytes = c.from-bytes.result.now in
    let held : room ≤ length bytes = omega (arith, c.if-bytes-room.false) in
    let found = heads_found content bytes c.from.result.now at room first c.term_room-room.ensures.room piece c.term_room-room.ensures.most.0 held in
    let place = at + room in
    let size = 11 * c.u32_at-count.result in
    let after = content_same (g.C.Cabinet.told c.reach.new.files) (g.C.Cabinet.told c.reach-2.new.files) c.args.name.now content (sym c.in_ok-reach-2.ensures.reads.stays) then in
    let three : Holds content c.reach-3.new.self = (c.in_ok-reach-3.ensures.shown content after two.0, c.in_ok-reach-3.ensures.size ∙ two.1) in
    let heads : IsPiece content place size c.from-2.result.now = c.from-2.ensures.piece content size three (c.in_ok-reach-3.ensures.reached content after two.0) in
    let count = c.u32_at-count.ensures in
    absurd (heads_held content c.from-2.result.now place size heads (omega (arith, found.0, found.1, count, fits)) (omega (arith, c.if-from-size.true)))

pub returns-clause-place : goal.returns-clause-place
returns-clause-place g c = λ content is holds.
    let at = c.args.at in
    let room = c.term_room-room.result in
    let one : Holds content c.reach.new.self = (c.in_ok-reach.ensures.shown content is holds.0, c.in_ok-reach.ensures.size ∙ holds.1) in
    let first : IsPiece content at 4 c.from.result.now = c.from.ensures.piece content 4 one (c.in_ok-reach.ensures.reached content is holds.0) in
    let then = content_same (g.C.Cabinet.told c.args.files.now) (g.C.Cabinet.told c.reach.new.files) c.args.name.now content (sym c.in_ok-reach.ensures.reads.stays) is in
    let two : Holds content c.reach-2.new.self = (c.in_ok-reach-2.ensures.shown content then one.0, c.in_ok-reach-2.ensures.size ∙ one.1) in
    let piece : IsPiece content at room c.from-bytes.result.now = c.from-bytes.ensures.piece content room two (c.in_ok-reach-2.ensures.reached content then one.0) in
    let bytes = c.from-bytes.result.now in
    let held : room ≤ length bytes = omega (arith, c.if-bytes-room.false) in
    let found = heads_found content bytes c.from.result.now at room first c.term_room-room.ensures.room piece c.term_room-room.ensures.most.0 held in
    (found.0, c.u32_at-count.ensures ∙ found.1)

pub returns-clause-there : goal.returns-clause-there
returns-clause-there g c =
    let all = c.from-2.ensures.all in
    let few = c.from-2.ensures.few in
    let at = c.in_ok-reach-3.ensures.at in
    let one = c.reach.ensures.size in
    let two = c.reach-2.ensures.size in
    let three = c.reach-3.ensures.size in
    let held = c.if-from-size.false in
    (at, omega (arith, all, held, at.not_behind), omega (arith, few, held, one, two, three))
