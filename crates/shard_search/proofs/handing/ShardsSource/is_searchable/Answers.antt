use Rattle.std.proofs.Common.{subst}
use Rattle.index_file.specs.Sources.{IsSearchable}
use Rattle.shard_search.proofs.Unioned.{index_searchable}
use Rattle.shard_search.specs.Union.{UnionView, union_index}
use Rattle.shard_search.proofs.handing.ShardsSource.is_searchable.Goals as goal

pub returns : goal.returns
returns c =
    let f = c.self.inside in
    subst (λ (v : UnionView). IsSearchable (union_index v)) c.self.view_is (index_searchable f.parts f.table.pieces c.self.invariant.searchable)
