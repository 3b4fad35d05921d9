use Rattle.std.proofs.Common.{◌∙◌, ap, replicate}
use Rattle.session_engine.proofs.Below.{prefix_within, plan_with}
use Rattle.session_engine.specs.Plans.{query_heads, session_plan}
use Rattle.session_engine.proofs.First.{none_at_first, zero_at_first}
use Rattle.session_engine.proofs.laws.nothing_is_scored_at_first.Goals as goal

pub returns-clause-prefix : goal.returns-clause-prefix
returns-clause-prefix c index terms is are known =
    none_at_first index terms (plan_with terms (query_heads index terms)).entries (session_plan index terms).segments (prefix_within 0 (session_plan index terms).segments)
    (c.a_session_plan_names_its_segments.ensures.names index terms is are known) (c.a_session_plan_names_its_segments.ensures.segments index terms is are known)
    (c.the_prefix_is_the_longest.ensures.there 0 (session_plan index terms).segments) (c.the_prefix_is_the_longest.ensures.fits 0 (session_plan index terms).segments)

pub returns-clause-scores : goal.returns-clause-scores
returns-clause-scores c index terms = zero_at_first (session_plan index terms) ∙ ap (λ n. replicate n 0) (c.a_session_plan_names_its_segments.ensures.docs index terms)
