-- Hits in a room of fixed size.
use Rattle.std.specs.Prelude.{ℕ, List, map, slice_index_or}
use Rattle.jass_base.specs.declared.answer.Hit.{Hit}

-- the hits, and how many there is room for
pub record HitsView : Type 0 where
  pub hits : List Hit
  pub room : ℕ

-- the hit at a place; document 0 with score 0 past the end
abbrev pub hit_at : List Hit → ℕ → Hit
hit_at hits place = slice_index_or hits place (record { doc = 0; score = 0 })

-- the documents of some hits
abbrev pub hit_docs : List Hit → List ℕ
hit_docs hits = map (λ hit. hit.doc) hits
