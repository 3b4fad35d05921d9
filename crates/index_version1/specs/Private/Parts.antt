-- The parts of an index as plain data.
use Rattle.std.specs.Prelude.{map, ℕ, List, Result}
use Rattle.index_model.specs.Index.{IndexData}
use Rattle.index_model.specs.Views.{term_data}
use Rattle.index_version1.specs.declared.parts.Parts.{Parts}
use Rattle.index_layout.specs.declared.refusal.OpenRefusal.{OpenRefusal}
use Rattle.index_layout.specs.Refusals.{◌>>=◌}
use Rattle.index_layout.specs.Reading.{Front, TermsRead, after_terms}
use Rattle.index_version1.specs.Reading.{index_in}

abbrev pub parts_data : Parts → IndexData
parts_data parts = record { names = parts.names; terms = map term_data parts.terms }

-- the index behind its names and heads
abbrev pub index_after : List ℕ → Front → List (List ℕ) → TermsRead → Result IndexData OpenRefusal
index_after bytes front names x = after_terms bytes front names x >>= index_in
