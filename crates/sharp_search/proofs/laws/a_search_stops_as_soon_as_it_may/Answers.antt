use Rattle.shared_lemmas.proofs.Common.{◌≡◌, ℕ, length}
use Rattle.index_model.specs.Flat.{numbered_flat}
use Rattle.ranking_model.specs.Postings.{AreTerms}
use Rattle.session_engine.specs.Plans.{session_plan}
use Rattle.sharp_bounds.specs.Rule.{stop_at}
use Rattle.sharp_search.specs.Standing.{granted_of, k_of, plan_over, prefix_of}
use Rattle.sharp_search.proofs.Stops.{reported, stops}
use Rattle.sharp_search.proofs.laws.a_search_stops_as_soon_as_it_may.Goals as goal

pub returns-clause-stop : goal.returns-clause-stop
unfolding session_plan
returns-clause-stop c s index pool is stands =
    let are : AreTerms s.query.terms = record { few = s.query.few; named = s.query.named; differ = s.query.differ } in
    let flat = c.the_flat_list_is_flat.ensures.numbers index is.is_well_formed in
    stops s index pool stands (λ n. c.the_rule_decides_which_are_sharply_final.ensures.sharp (length index.names) n (k_of s) (numbered_flat index) s.query.terms flat are)
    (λ n. c.the_rule_decides_which_are_sharply_final.ensures.changed (length index.names) n (k_of s) (numbered_flat index) s.query.terms flat are)

pub returns-clause-first : goal.returns-clause-first
unfolding session_plan
returns-clause-first c s index pool is stands =
    let are : AreTerms s.query.terms = record { few = s.query.few; named = s.query.named; differ = s.query.differ } in
    let flat = c.the_flat_list_is_flat.ensures.numbers index is.is_well_formed in
    c.the_rule_says_where_to_stop.ensures.one_stop (granted_of s) (k_of s) (prefix_of s) (stop_at (granted_of s) (plan_over index s) (k_of s)) (plan_over index s)
    (stops s index pool stands (λ n. c.the_rule_decides_which_are_sharply_final.ensures.sharp (length index.names) n (k_of s) (numbered_flat index) s.query.terms flat are)
    (λ n. c.the_rule_decides_which_are_sharply_final.ensures.changed (length index.names) n (k_of s) (numbered_flat index) s.query.terms flat are))
    (c.the_rule_says_where_to_stop.ensures.stop (length index.names) (granted_of s) (k_of s) (numbered_flat index) s.query.terms flat are)

pub returns-clause-report : goal.returns-clause-report
unfolding session_plan
returns-clause-report c s index pool is stands =
    let are : AreTerms s.query.terms = record { few = s.query.few; named = s.query.named; differ = s.query.differ } in
    reported s index pool stands (c.the_rule_says_where_to_stop.ensures.grade (length index.names) (prefix_of s) (k_of s) (numbered_flat index) s.query.terms (c.the_flat_list_is_flat.ensures.numbers index is.is_well_formed) are)
