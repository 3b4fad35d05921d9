use Rattle.sharp_search.specs.Standing.{granted_of, k_of, plan_over, prefix_of}
use Rattle.sharp_search.proofs.Stops.{as_first, still_stops}
use Rattle.sharp_search.proofs.laws.grants_after_the_end_add_nothing.Goals as goal

pub returns : goal.returns
returns c s t index pool other is one two terms ks more final =
    c.the_rule_says_where_to_stop.ensures.one_stop (granted_of t) (k_of s) (prefix_of s) (prefix_of t) (plan_over index s)
    (still_stops s t index pool other one two terms ks more (c.a_search_stops_as_soon_as_it_may.ensures.stop s index pool is one) final
    c.the_prefix_is_the_longest.ensures.fits c.the_prefix_is_the_longest.ensures.there c.the_prefix_is_the_longest.ensures.longest)
    (as_first s t index pool other one two terms ks (c.a_search_stops_as_soon_as_it_may.ensures.stop t index other is two))
