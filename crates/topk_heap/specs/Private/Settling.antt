-- What settling and ranking do with hits and their heap places, step by step.
use Rattle.std.specs.Prelude.{◌≡◌, ℕ, ◌+◌, ◌==◌, if◌then◌else◌, List, [], ◌∷◌, length, slice_index, slice_set}
use Rattle.jass_base.specs.declared.answer.Hit.{Hit}

-- a document with its score
abbrev pub hit_of : List ℕ → ℕ → Hit
hit_of scores doc = record { doc = doc; score = slice_index scores doc }

-- the hit's document with the score that it has now
abbrev pub rescored : List ℕ → Hit → Hit
rescored scores hit = hit_of scores hit.doc

-- no document has a heap place
abbrev pub IsVacant : List ℕ → Type 0
IsVacant places = (doc : ℕ) → slice_index places doc ≡ 0

-- the hits of those documents that have no heap place
abbrev pub newcomers : List ℕ → List ℕ → List ℕ → List Hit
newcomers scores places [] = []
newcomers scores places (doc ∷ docs) = if slice_index places doc == 0 then hit_of scores doc ∷ newcomers scores places docs else newcomers scores places docs

-- the heap places without those of these hits
abbrev pub without_places : List Hit → List ℕ → List ℕ
without_places [] places = places
without_places (hit ∷ hits) places = without_places hits (slice_set places hit.doc 0)

-- the heap places with those of these hits, of which the last gets 1
abbrev pub with_places : List Hit → List ℕ → List ℕ
with_places [] places = places
with_places (hit ∷ hits) places = with_places hits (slice_set places hit.doc (1 + length hits))
