-- The heads of all terms of an index.
use Rattle.std.specs.Prelude.{ℕ, List, flat_map}
use Rattle.index_model.specs.Index.{TermData}
use Rattle.index_layout.specs.Heads.{HeadData}
use Rattle.index_write.specs.Chosen.{chosen_heads}

-- the heads of all terms
abbrev pub table_of : ℕ → List TermData → List HeadData
table_of d terms = flat_map (λ (t : TermData). chosen_heads d t.segments) terms
