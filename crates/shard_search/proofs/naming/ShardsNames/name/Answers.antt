use Rattle.std.proofs.Common.{◌<◌, ℕ, List, length, slice_get, ap, subst, sym, ◌∙◌}
use Rattle.index_model.specs.Unions.{union_names}
use Rattle.index_layout.specs.View.{FileView}
use Rattle.shard_search.proofs.Cursors.{file_there}
use Rattle.shard_search.proofs.Unioned.{index_names}
use Rattle.shard_search.specs.Sums.{indexes_of}
use Rattle.shard_search.specs.Union.{UnionView, union_index}
use Rattle.shard_search.proofs.naming.ShardsNames.name.Goals as goal

pub place_of-part-requires : goal.place_of-part-requires
place_of-part-requires c =
    let f = c.self.inside in
    let names = ap (λ (v : UnionView). (union_index v).names) (sym c.self.view_is) ∙ index_names f.parts f.table.pieces ∙ c.self.invariant.names in
    subst (λ (l : List FileView). c.args.doc < length (union_names (indexes_of l))) (sym c.as_slice.ensures) (subst (λ (l : List (List ℕ)). c.args.doc < length l) names c.requires)

pub returns : goal.returns
returns c =
    let f = c.self.inside in
    let names = ap (λ (v : UnionView). (union_index v).names) (sym c.self.view_is) ∙ index_names f.parts f.table.pieces ∙ c.self.invariant.names in
    let place = c.place_of-part.result in
    let rows = c.as_slice.result.now in
    let file = c.index-as_slice-part.result in
    let file_is = file_there rows c.as_slice-2.result.now place.0 file c.index-as_slice-part.is (c.as_slice-2.ensures ∙ sym c.as_slice.ensures) c.place_of-part.ensures.part in
    ap (λ (l : List (List ℕ)). slice_get l c.args.doc) (names ∙ ap (λ (l : List FileView). union_names (indexes_of l)) (sym c.as_slice.ensures))
    ∙ c.place_of-part.ensures.name
    ∙ ap (λ (x : FileView). slice_get x.index.names place.1) (sym file_is)
    ∙ c.name.ensures
