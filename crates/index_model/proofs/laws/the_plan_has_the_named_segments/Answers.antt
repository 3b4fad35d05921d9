use Rattle.std.proofs.Common.{ap, ◌∙◌}
use Rattle.ranking_model.specs.Plan.{plan_segments}
use Rattle.index_model.specs.Querying.{query_segments}
use Rattle.index_model.proofs.NamedSegments.{all_full, all_apart}
use Rattle.index_model.proofs.laws.the_plan_has_the_named_segments.Goals as goal

pub returns : goal.returns
returns c = λ index query is are. ap plan_segments (c.a_query_weighs_its_segments.ensures index query)
    ∙ c.segments_make_a_plan.ensures (query_segments index query) (all_full index query is) (all_apart index query is are.named)
