use Rattle.ranking_model.proofs.Growing.{segment_added, added_parts, length-added}
use Rattle.ranking_model.proofs.prefix_laws.one_segment_more_is_added.Goals as goal

pub returns-clause-segment : goal.returns-clause-segment
returns-clause-segment c = segment_added

pub returns-clause-parts : goal.returns-clause-parts
returns-clause-parts c = added_parts

pub returns-clause-length : goal.returns-clause-length
returns-clause-length c = length-added
