use Rattle.std.proofs.Common.{◌∙◌, List, length, ap}
use Rattle.session_engine.proofs.Below.{PlanSegment, WeightedPosting, size_of_first, weighted_postings, numbered_flat}
use Rattle.session_engine.specs.Plans.{session_plan}
use Rattle.session_engine.proofs.Totals.{query_is_long}
use Rattle.session_engine.proofs.laws.a_session_plan_has_its_postings.Goals as goal

pub returns : goal.returns
unfolding session_plan
returns c index terms =
    ap (λ (segments : List PlanSegment). size_of_first (length segments) segments) (c.a_plan_has_the_segments_of_its_postings.ensures.segments (length index.names) (numbered_flat index) terms)
    ∙ c.the_segments_have_all_postings.ensures.number (weighted_postings (numbered_flat index) terms)
    ∙ ap (λ (ps : List WeightedPosting). length ps) (c.a_query_weighs_its_segments.ensures index terms) ∙ query_is_long index terms
