-- Rows of hits, and of the numbers that hits are sorted by.
use Rattle.std.specs.Prelude.{ℕ, ◌+◌, ◌-◌, ◌*◌, ◌/◌, ◌%◌, List, map, slice_set}
use Rattle.jass_base.specs.declared.answer.Hit.{Hit}
use Rattle.topk_heap.specs.Hits.{HitsView, hit_at}

-- the hits with another score for the one at a place
abbrev pub with_score : List Hit → ℕ → ℕ → List Hit
with_score hits place score = slice_set hits place (record { doc = (hit_at hits place).doc; score = score })

-- what hits are sorted by
abbrev pub rank_key : Hit → ℕ
rank_key hit = (4294967295 - hit.score) * 4294967296 + hit.doc

-- the hit that is sorted by a number
abbrev pub hit_of_key : ℕ → Hit
hit_of_key key = record { doc = key % 4294967296; score = 4294967295 - key / 4294967296 }

-- the document of the hit that is sorted by a number
abbrev pub doc_of_key : ℕ → ℕ
doc_of_key key = key % 4294967296

-- the hits that are sorted by some numbers, with room for so many
abbrev pub keys_view : List ℕ → ℕ → HitsView
keys_view keys room = record { hits = map hit_of_key keys; room = room }
