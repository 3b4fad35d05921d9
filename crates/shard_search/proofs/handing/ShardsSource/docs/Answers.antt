use Rattle.std.proofs.Common.{length, ap, sym, ◌∙◌}
use Rattle.shard_search.proofs.NameLists.{names_counted}
use Rattle.shard_search.proofs.Unioned.{index_names}
use Rattle.shard_search.specs.Union.{UnionView, union_index}
use Rattle.shard_search.proofs.handing.ShardsSource.docs.Goals as goal

pub returns : goal.returns
returns c =
    let f = c.self.inside in
    c.self.invariant.docs ∙ sym (names_counted f.parts) ∙ sym (ap length (index_names f.parts f.table.pieces ∙ c.self.invariant.names))
    ∙ ap (λ (v : UnionView). length (union_index v).names) c.self.view_is
