-- Small plans on which the definitions are run.
use Rattle.std.specs.Prelude.{ℕ, List, [], ◌∷◌}
use Rattle.jass_base.specs.declared.query_term.QueryTerm.{QueryTerm}
use Rattle.segment_plan.specs.declared.entry.PlanHead.{PlanHead}
use Rattle.segment_plan.specs.declared.entry.PlanEntry.{PlanEntry}
use Rattle.segment_plan.specs.Entries.{PlanView, plan_with}

abbrev pub plan_entry : ℕ → ℕ → ℕ → ℕ → PlanEntry
plan_entry term_place segment weight count = record { term_place = term_place; segment = segment; weight = weight; count = count }

abbrev plan_head : ℕ → ℕ → ℕ → ℕ → PlanHead
plan_head term_place segment impact count = record { term_place = term_place; segment = segment; impact = impact; count = count }

abbrev named : ℕ → ℕ → QueryTerm
named term times = record { term = term; times = times }

-- one posting of impact 3 and two of impact 1
abbrev cat : ℕ → List PlanHead → List PlanHead
cat term_place heads = plan_head term_place 0 3 1 ∷ plan_head term_place 1 1 2 ∷ heads

-- one posting of impact 3 and one of impact 2
abbrev dog : ℕ → List PlanHead → List PlanHead
dog term_place heads = plan_head term_place 0 3 1 ∷ plan_head term_place 1 2 1 ∷ heads

-- the segments of `cat dog`
abbrev pub cat_dog_heads : List PlanHead
cat_dog_heads = cat 0 (dog 1 [])

abbrev pub cat_dog : PlanView
cat_dog = plan_with (named 0 1 ∷ named 1 1 ∷ []) cat_dog_heads

abbrev pub dog_cat : PlanView
dog_cat = plan_with (named 1 1 ∷ named 0 1 ∷ []) (dog 0 (cat 1 []))

abbrev pub cat_twice_dog : PlanView
cat_twice_dog = plan_with (named 0 2 ∷ named 1 1 ∷ []) (cat 0 (dog 1 []))
