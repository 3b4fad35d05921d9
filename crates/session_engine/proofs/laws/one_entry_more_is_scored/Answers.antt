use Rattle.std.proofs.Common.{◌∙◌, ◌+◌, ap, sym}
use Rattle.session_engine.proofs.Below.{size_of_first, plan_with}
use Rattle.session_engine.specs.Plans.{NamesSegment, segment_named, query_heads, session_plan}
use Rattle.session_engine.proofs.EntryLists.{mapped_there, one_size, size_most, there}
use Rattle.session_engine.proofs.laws.one_entry_more_is_scored.Goals as goal

pub returns-clause-names : goal.returns-clause-names
returns-clause-names c index terms n entry is =
    there (NamesSegment index terms) (plan_with terms (query_heads index terms)).entries n entry is.at (c.a_session_plan_names_its_segments.ensures.names index terms is.is_well_formed is.named is.known)

pub returns-clause-segment : goal.returns-clause-segment
returns-clause-segment c index terms n entry is =
    mapped_there (segment_named index terms) (plan_with terms (query_heads index terms)).entries (session_plan index terms).segments n entry
    (c.a_session_plan_names_its_segments.ensures.segments index terms is.is_well_formed is.named is.known) is.at

pub returns-clause-scores : goal.returns-clause-scores
returns-clause-scores c index terms n entry is = c.one_segment_more_is_added.ensures.segment n (session_plan index terms) (segment_named index terms entry)
    (mapped_there (segment_named index terms) (plan_with terms (query_heads index terms)).entries (session_plan index terms).segments n entry
    (c.a_session_plan_names_its_segments.ensures.segments index terms is.is_well_formed is.named is.known) is.at)

pub returns-clause-size : goal.returns-clause-size
returns-clause-size c index terms n entry is =
    let names = there (NamesSegment index terms) (plan_with terms (query_heads index terms)).entries n entry is.at (c.a_session_plan_names_its_segments.ensures.names index terms is.is_well_formed is.named is.known) in
    c.a_prefix_is_resumed.ensures.size n 1 (session_plan index terms).segments ∙ ap (λ k. size_of_first n (session_plan index terms).segments + k)
    (one_size n (session_plan index terms).segments (segment_named index terms entry)
    (mapped_there (segment_named index terms) (plan_with terms (query_heads index terms)).entries (session_plan index terms).segments n entry
    (c.a_session_plan_names_its_segments.ensures.segments index terms is.is_well_formed is.named is.known) is.at) ∙ sym names.count)

pub returns-clause-most : goal.returns-clause-most
returns-clause-most c index terms n = size_most n (session_plan index terms).segments
