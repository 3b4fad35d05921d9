use Rattle.std.proofs.Common.{◌≡◌, ◌<◌, ℕ, List, length, slice_index, take, drop, ap, subst, sym, ◌∙◌, arith}
use Rattle.index_layout.specs.View.{FileView}
use Rattle.index_file.specs.Giving.{Gives}
use Rattle.shard_search.proofs.Cursors.{file_there, gives_on}
use Rattle.shard_search.specs.Parts.{base_of, file_at}
use Rattle.shard_search.specs.Union.{UnionView}
use Rattle.shard_search.proofs.shards.Shards.give.Goals as goal

pub returns-clause-gives : goal.returns-clause-gives
returns-clause-gives g c = λ docs leaves.
    let f = c.self.inside in
    let cursor = c.args.cursor.now in
    let n = c.next_block-given.result in
    let inside = subst (λ (v : UnionView). cursor.part < length v.files) (sym c.self.view_is) leaves.part in
    let file_is : c.index-as_slice-part.result ≡ file_at c.args.self.now.files cursor.part =
    file_there f.parts c.as_slice.result.now cursor.part c.index-as_slice-part.result c.index-as_slice-part.is c.as_slice.ensures inside
    ∙ ap (λ (v : UnionView). file_at v.files cursor.part) c.self.view_is in
    let gives = subst (λ (x : FileView). Gives x cursor.inner leaves.rest) (sym file_is) leaves.gives in
    let base : slice_index c.as_slice-2.result.now cursor.part ≡ base_of c.args.self.now.files cursor.part =
    ap (λ (l : List ℕ). slice_index l cursor.part) c.as_slice-2.ensures ∙ c.self.invariant.bases.each cursor.part inside ∙ ap (λ (v : UnionView). base_of v.files cursor.part) c.self.view_is in
    gives_on c.args.self.now cursor docs leaves n (slice_index c.as_slice-2.result.now cursor.part) c.next_block-given.new.out (take n c.raise.new.block) c.next_block-given.new.cursor base
    (c.next_block-given.ensures.block leaves.rest gives) (omega (arith, c.next_block-given.array_long, c.next_block-given.ensures.most))
    c.raise.ensures
    (subst (λ (x : FileView). Gives x c.next_block-given.new.cursor (drop n leaves.rest)) file_is (c.next_block-given.ensures.rest leaves.rest gives))
