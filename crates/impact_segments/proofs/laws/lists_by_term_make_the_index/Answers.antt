use Rattle.impact_segments.proofs.ListTerms.{index_by_term}
use Rattle.impact_segments.proofs.laws.lists_by_term_make_the_index.Goals as goal

pub returns : goal.returns
returns c = index_by_term
