-- Small indexes and queries on which the definitions are run.
use Rattle.std.specs.Prelude.{ℕ, List, [], ◌∷◌}
use Rattle.ranking_model.specs.declared.entry.Entry.{Entry}
use Rattle.ranking_model.specs.declared.plan.QueryPlan.{QueryPlan}
use Rattle.ranking_model.specs.Plan.{plan_of}
use Rattle.ranking_model.specs.Examples.{named}

abbrev entry : ℕ → ℕ → ℕ → Entry ℕ
entry term doc impact = record { term = term; doc = doc; impact = impact }

-- three documents: the first two have `p` (term 0), all have `q` (term 1), the third a little of it
abbrev pub two_ahead : List (Entry ℕ)
two_ahead = entry 0 1 4 ∷ entry 0 0 3 ∷ entry 1 0 5 ∷ entry 1 1 5 ∷ entry 1 2 1 ∷ []

abbrev pub p_q : QueryPlan
p_q = plan_of 3 two_ahead (named 0 1 ∷ named 1 1 ∷ [])

-- three documents with one term, close to one another
abbrev pub close : List (Entry ℕ)
close = entry 0 0 9 ∷ entry 0 1 8 ∷ entry 0 2 7 ∷ []

abbrev pub one_term : QueryPlan
one_term = plan_of 3 close (named 0 1 ∷ [])
