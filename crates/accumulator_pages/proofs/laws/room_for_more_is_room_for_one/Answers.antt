use Rattle.std.proofs.Common.{◌/◌, arith}
use Rattle.accumulator_pages.specs.Pages.{own_view}
use Rattle.accumulator_pages.proofs.Standing.{has_room}
use Rattle.accumulator_pages.proofs.laws.room_for_more_is_room_for_one.Goals as goal

pub returns : goal.returns
returns c pages pool doc more stands inside some room =
    has_room pages.table pages.docs (own_view pages pool) (doc / 256) more stands.here.fields.table (let t = stands.here.fields.table.covers in omega (arith, t, inside)) some room
