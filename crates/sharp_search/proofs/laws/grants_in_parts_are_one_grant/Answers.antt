use Rattle.sharp_search.proofs.Stops.{same_answer, same_prefix, same_report}
use Rattle.sharp_search.proofs.laws.grants_in_parts_are_one_grant.Goals as goal

pub returns-clause-prefix : goal.returns-clause-prefix
returns-clause-prefix c s t index pool other is one two terms ks granted = same_prefix s t index pool other one two terms ks granted
    (c.a_search_stops_as_soon_as_it_may.ensures.first s index pool is one) (c.a_search_stops_as_soon_as_it_may.ensures.first t index other is two)

pub returns-clause-report : goal.returns-clause-report
returns-clause-report c s t index pool other is one two terms ks granted = same_report s t index pool other one two terms ks (same_prefix s t index pool other one two terms ks granted
    (c.a_search_stops_as_soon_as_it_may.ensures.first s index pool is one) (c.a_search_stops_as_soon_as_it_may.ensures.first t index other is two))

pub returns-clause-answer : goal.returns-clause-answer
returns-clause-answer c s t index pool other is one two terms ks granted = same_answer s t index pool other one two terms ks (same_prefix s t index pool other one two terms ks granted
    (c.a_search_stops_as_soon_as_it_may.ensures.first s index pool is one) (c.a_search_stops_as_soon_as_it_may.ensures.first t index other is two))
