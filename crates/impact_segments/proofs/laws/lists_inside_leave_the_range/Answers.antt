use Rattle.impact_segments.proofs.Unwidened.{unwidened}
use Rattle.impact_segments.proofs.laws.lists_inside_leave_the_range.Goals as goal

pub returns : goal.returns
returns c = unwidened c.bm25_follows_frequencies.ensures.rises c.bm25_follows_frequencies.ensures.falls
