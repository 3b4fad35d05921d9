use Rattle.std.proofs.Common.{◌≤◌, ◌+◌, length, slice_index_or, slice_range, subst, sym}
use Rattle.shard_search.proofs.Cursors.{begins, file_there, first_stands, no_piece}
use Rattle.shard_search.specs.Parts.{pieces_docs}
use Rattle.shard_search.specs.Union.{Leaves, UnionView}
use Rattle.shard_search.proofs.shards.Shards.begin.Goals as goal

pub returns-clause-leaves : goal.returns-clause-leaves
returns-clause-leaves c =
    let f = c.self.inside in
    let rows = c.as_slice.result.now in
    let pieces = f.table.pieces in
    let p = slice_index_or rows c.args.from no_piece in
    let within = subst (λ (v : UnionView). c.args.to ≤ length v.pieces) (sym c.self.view_is) c.requires.within in
    let stands = first_stands f.parts pieces rows c.as_slice.ensures c.args.from c.args.to c.requires.some within c.self.invariant.table.pieces in
    let file = c.index-as_slice-piece.result in
    let file_is = file_there f.parts c.as_slice-2.result.now p.part file c.index-as_slice-piece.is c.as_slice-2.ensures stands.part in
    subst (λ (v : UnionView). Leaves v (record { inner = c.cursor.result; part = p.part; left = c.head.result.count; next = c.args.from + 1; end = c.args.to }) (pieces_docs v.files (slice_range v.pieces c.args.from c.args.to)))
    c.self.view_is
    (begins f.parts pieces rows c.as_slice.ensures c.args.from c.args.to c.requires.some within c.self.invariant.table.pieces file file_is c.is_checked.ensures
    c.cursor.result c.head.result.count c.cursor.ensures c.head.ensures.count)
