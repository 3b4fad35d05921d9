use Rattle.std.proofs.Common.{◌≤◌, ◌^◌, length, sym, subst}
use Rattle.index_model.specs.Flat.{numbered_flat}
use Rattle.session_engine.specs.Plans.{session_plan}
use Rattle.session_engine.proofs.Totals.{flat_is_long}
use Rattle.session_engine.proofs.laws.a_session_plan_is_small.Goals as goal

pub returns : goal.returns
unfolding session_plan
returns c index terms is are times =
    c.plans_are_small.ensures (length index.names) (numbered_flat index) terms (c.the_flat_list_is_flat.ensures.numbers index is.is_well_formed) are times
    (subst (λ n. n ≤ 2 ^ 29) (sym (flat_is_long index)) is.postings)
