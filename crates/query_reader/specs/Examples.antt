-- Small indexes and mentions on which the definitions are run.
use Rattle.std.specs.Prelude.{ℕ, List, [], ◌∷◌, codes}
use Rattle.jass_base.specs.declared.query_term.QueryTerm.{QueryTerm}
use Rattle.query_reader.specs.Mentions.{Mention}

abbrev pub mention : List ℕ → ℕ → Mention
mention term factor = record { term = term; factor = factor }

abbrev pub named : ℕ → ℕ → QueryTerm
named term times = record { term = term; times = times }

-- the terms of an index
abbrev pub cat_and_dog : List (List ℕ)
cat_and_dog = codes "cat" ∷ codes "dog" ∷ []
