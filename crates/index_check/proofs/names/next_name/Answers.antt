use Rattle.shared_lemmas.proofs.Common.{ℕ, sym, ◌∙◌, arith}
use Rattle.index_file.specs.Pieces.{IsPiece}
use Rattle.index_check.specs.Private.Pieces.{Holds}
use Rattle.index_check.proofs.NameRooms.{name_ends, name_room_told, name_stops}
use Rattle.index_file.proofs.ContentReads.{content_same}
use Rattle.index_check.proofs.names.next_name.Goals as goal

pub returns-in-Ok-clause-exact : goal.returns-in-Ok-clause-exact
returns-in-Ok-clause-exact g c =
    λ content is holds.
    let then = content_same _ _ c.args.name.now content (sym c.in_ok-reach.ensures.reads.stays) is in
    let shown = c.in_ok-reach.ensures.shown content is holds.0 in
    let holds_then : Holds content c.reach.new.self = (shown, c.in_ok-reach.ensures.size ∙ holds.1) in
    let first : IsPiece content c.args.at 4 c.from.result.now = c.from.ensures.piece content 4 holds_then (c.in_ok-reach.ensures.reached content is holds.0) in
    let holds_last : Holds content c.reach-2.new.self = (c.in_ok-reach-2.ensures.shown content then shown, c.in_ok-reach-2.ensures.size ∙ holds_then.1) in
    let room : ℕ = c.name_room-room.result in
    let piece : IsPiece content c.args.at room c.from-2.result.now = c.from-2.ensures.piece content room holds_last (c.in_ok-reach-2.ensures.reached content then shown) in
    name_ends content c.from-2.result.now c.args.at room c.in-Ok.size piece c.name_room-room.ensures.most.0
    (name_room_told content c.from.result.now c.args.at room first c.name_room-room.ensures.room) c.in-Ok.ensures.exact

pub returns-in-Err-clause-exact : goal.returns-in-Err-clause-exact
returns-in-Err-clause-exact g c =
    λ content is holds.
    let then = content_same _ _ c.args.name.now content (sym c.in_ok-reach.ensures.reads.stays) is in
    let shown = c.in_ok-reach.ensures.shown content is holds.0 in
    let holds_then : Holds content c.reach.new.self = (shown, c.in_ok-reach.ensures.size ∙ holds.1) in
    let first : IsPiece content c.args.at 4 c.from.result.now = c.from.ensures.piece content 4 holds_then (c.in_ok-reach.ensures.reached content is holds.0) in
    let holds_last : Holds content c.reach-2.new.self = (c.in_ok-reach-2.ensures.shown content then shown, c.in_ok-reach-2.ensures.size ∙ holds_then.1) in
    let room : ℕ = c.name_room-room.result in
    let piece : IsPiece content c.args.at room c.from-2.result.now = c.from-2.ensures.piece content room holds_last (c.in_ok-reach-2.ensures.reached content then shown) in
    name_stops content c.from-2.result.now c.args.at room c.in-Err.fault c.moved.result piece c.name_room-room.ensures.most.0
    (name_room_told content c.from.result.now c.args.at room first c.name_room-room.ensures.room) (omega (arith, c.requires.at, c.requires.few)) c.in-Err.ensures.exact c.moved.ensures
