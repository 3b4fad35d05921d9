-- The name is judged, and then the room.
use Rattle.shared_lemmas.proofs.Common.{◌<◌, ◌≤◌, length, sym, arith, rules, length-map}
use Rattle.session_desk.specs.Standing.{sessions_data, session_data, state_of}
use Rattle.session_desk.proofs.Joining.{desk_full, free_there, name_taken, room_there, taken_there}
use Rattle.session_desk.proofs.Showing.{found_nowhere}
use Rattle.session_desk.proofs.table.Table.room_refusal.Goals as goal

pub returns-then-is_some-clause-refusal : goal.returns-then-is_some-clause-refusal
returns-then-is_some-clause-refusal c =
    sym (name_taken (state_of c.args.self.now) c.args.name.now (taken_there c.args.self.now.sessions.items c.args.name.now c.place_of.result c.place_of.ensures (search rules) c.requires))

pub returns-then-len-ge-MOST_SESSIONS-clause-refusal : goal.returns-then-len-ge-MOST_SESSIONS-clause-refusal
returns-then-len-ge-MOST_SESSIONS-clause-refusal c =
    let items = c.args.self.now.sessions.items in
    let free = free_there items c.args.name.now c.place_of.result c.place_of.ensures (search rules) in
    let many : 64 ≤ length (sessions_data items) = omega (arith, c.if-len-ge-MOST_SESSIONS.true, c.len.ensures, c.args.self.now.sessions.ok.0, length-map items session_data) in
    sym (desk_full (state_of c.args.self.now) c.args.name.now (found_nowhere c.args.name.now items free) many)

pub returns-clause-refusal : goal.returns-clause-refusal
returns-clause-refusal c =
    let items = c.args.self.now.sessions.items in
    let free = free_there items c.args.name.now c.place_of.result c.place_of.ensures (search rules) in
    let few : length (sessions_data items) < 64 = omega (arith, c.if-len-ge-MOST_SESSIONS.false, c.len.ensures, c.args.self.now.sessions.ok.0, length-map items session_data) in
    sym (room_there (state_of c.args.self.now) c.args.name.now (found_nowhere c.args.name.now items free) few)
