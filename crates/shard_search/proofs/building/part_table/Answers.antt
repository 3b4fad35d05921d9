use Rattle.shard_search.proofs.Tables.{nothing_stands, nothing_told}
use Rattle.shard_search.proofs.building.part_table.Goals as goal

pub terms-init : goal.terms-init
terms-init c =
    let files = c.args.parts.now in
    let table = c.new-table.result in
    let is = c.new-table.ensures in
    record { stands = nothing_stands files table is.pieces is.segments is.terms; terms = nothing_told files table is.terms }
