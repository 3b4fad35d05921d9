use Rattle.index_model.proofs.NamedSegments.{weighs}
use Rattle.index_model.proofs.laws.a_query_weighs_its_segments.Goals as goal

pub returns : goal.returns
returns c = weighs
