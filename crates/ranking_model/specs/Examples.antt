-- Small indexes and queries on which the definitions are run.
use Rattle.std.specs.Prelude.{ℕ, List, [], ◌∷◌, codes}
use Rattle.jass_base.specs.declared.answer.Hit.{Hit}
use Rattle.jass_base.specs.declared.answer.Report.{Report}
use Rattle.jass_base.specs.declared.answer.Grade.{Grade}
use Rattle.ranking_model.specs.declared.entry.Entry.{Entry}
use Rattle.jass_base.specs.declared.query_term.QueryTerm.{QueryTerm}
use Rattle.ranking_model.specs.declared.plan_segment.PlanSegment.{PlanSegment}
use Rattle.ranking_model.specs.declared.plan.QueryPlan.{QueryPlan}
use Rattle.ranking_model.specs.Flat.{numbered}
use Rattle.ranking_model.specs.Plan.{plan_of}
use Rattle.ranking_model.specs.Search.{QueryData}

abbrev flat_entry : List ℕ → ℕ → ℕ → Entry (List ℕ)
flat_entry term doc impact = record { term = term; doc = doc; impact = impact }

abbrev pub hit : ℕ → ℕ → Hit
hit doc score = record { doc = doc; score = score }

abbrev pub named : ℕ → ℕ → QueryTerm
named term times = record { term = term; times = times }

abbrev pub plan_segment : ℕ → ℕ → List ℕ → PlanSegment
plan_segment term_place weight docs = record { term_place = term_place; weight = weight; docs = docs }

-- postings, segments, segments of the plan, cutoff, next, bound and grade
abbrev pub report : ℕ → ℕ → ℕ → ℕ → ℕ → ℕ → Grade → Report
report postings segments of cutoff next bound grade = record { postings = postings; segments = segments; of = of; cutoff = cutoff; next = next; bound = bound; grade = grade }

-- four documents with `cat` and `dog`
abbrev pub pets : List (Entry (List ℕ))
pets = flat_entry (codes "cat") 0 3 ∷ flat_entry (codes "cat") 1 1 ∷ flat_entry (codes "cat") 3 1 ∷ flat_entry (codes "dog") 2 3 ∷ flat_entry (codes "dog") 1 2 ∷ []

-- their names
abbrev pub pet_names : List (List ℕ)
pet_names = codes "d0" ∷ codes "d1" ∷ codes "d2" ∷ codes "d3" ∷ []

-- three documents with `a`
abbrev pub falling : List (Entry (List ℕ))
falling = flat_entry (codes "a") 0 9 ∷ flat_entry (codes "a") 1 5 ∷ flat_entry (codes "a") 2 1 ∷ []

-- their names
abbrev pub falling_names : List (List ℕ)
falling_names = codes "d0" ∷ codes "d1" ∷ codes "d2" ∷ []

-- three documents with `a`, close to one another
abbrev pub close : List (Entry (List ℕ))
close = flat_entry (codes "a") 0 9 ∷ flat_entry (codes "a") 1 8 ∷ flat_entry (codes "a") 2 7 ∷ []

-- two documents of equal impact: the first has `p` and the second `q`
abbrev pub lower_first : List (Entry (List ℕ))
lower_first = flat_entry (codes "p") 0 3 ∷ flat_entry (codes "q") 1 3 ∷ []

-- the same, the other way round
abbrev pub higher_first : List (Entry (List ℕ))
higher_first = flat_entry (codes "p") 1 3 ∷ flat_entry (codes "q") 0 3 ∷ []

-- two documents that can only change places
abbrev pub swapping : List (Entry (List ℕ))
swapping = flat_entry (codes "p") 1 3 ∷ flat_entry (codes "p") 0 2 ∷ flat_entry (codes "q") 0 1 ∷ []

abbrev pub cat_dog : QueryPlan
cat_dog = plan_of 4 (numbered pets) (named 0 1 ∷ named 1 1 ∷ [])

abbrev pub dog_cat : QueryPlan
dog_cat = plan_of 4 (numbered pets) (named 1 1 ∷ named 0 1 ∷ [])

abbrev pub cat_twice_dog : QueryPlan
cat_twice_dog = plan_of 4 (numbered pets) (named 0 2 ∷ named 1 1 ∷ [])

abbrev pub a_once : QueryPlan
a_once = plan_of 3 (numbered falling) (named 0 1 ∷ [])

abbrev pub a_twice : QueryPlan
a_twice = plan_of 3 (numbered falling) (named 0 2 ∷ [])

-- a query of unknown words alone
abbrev pub nothing_known : QueryPlan
nothing_known = plan_of 4 (numbered pets) []

abbrev pub close_a : QueryPlan
close_a = plan_of 3 (numbered close) (named 0 1 ∷ [])

abbrev pub p_q_lower : QueryPlan
p_q_lower = plan_of 2 (numbered lower_first) (named 0 1 ∷ named 1 1 ∷ [])

abbrev pub p_q_higher : QueryPlan
p_q_higher = plan_of 2 (numbered higher_first) (named 0 1 ∷ named 1 1 ∷ [])

abbrev pub p_q_swapping : QueryPlan
p_q_swapping = plan_of 2 (numbered swapping) (named 0 1 ∷ named 1 1 ∷ [])

-- `cat dog`, and a word that no document has
abbrev pub two_queries : List QueryData
two_queries = record { id = codes "301"; terms = named 0 1 ∷ named 1 1 ∷ []; unknown = 0 } ∷ record { id = codes "302"; terms = []; unknown = 1 } ∷ []
