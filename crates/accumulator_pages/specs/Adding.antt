-- Weights that are added to scores.
use Rattle.std.specs.Prelude.{ℕ, ◌+◌, ◌*◌, List, [], ◌∷◌, ◌++◌, drop, take, length, slice_index, slice_set, count_by, Bool, if◌then◌else◌, nat_lt, nat_le, ◌&&◌}
use Rattle.std.specs.Int.{div_ceil}
use Rattle.std.specs.List.{list_any, range_with_len}
use Rattle.jass_base.specs.declared.answer.Hit.{Hit}

-- scores with a weight added to each of some documents in turn
abbrev pub added : ℕ → List ℕ → List ℕ → List ℕ
added weight [] scores = scores
added weight (doc ∷ docs) scores = added weight docs (slice_set scores doc (slice_index scores doc + weight))

-- the least score that ranks a document before a hit of another one
abbrev pub score_to_pass : Hit → ℕ → ℕ
score_to_pass hit doc = if nat_lt doc hit.doc then hit.score else hit.score + 1

-- the document, where its score was below that which passes the hit, and isn't any more
abbrev pub crossed : ℕ → ℕ → ℕ → Hit → List ℕ
crossed doc before after last = if nat_lt before (score_to_pass last doc) && nat_le (score_to_pass last doc) after then doc ∷ [] else []

-- the documents that pass a hit while a weight is added to each of some documents in turn
abbrev pub raised : ℕ → Hit → List ℕ → List ℕ → List ℕ
raised weight last [] scores = []
raised weight last (doc ∷ docs) scores =
    crossed doc (slice_index scores doc) (slice_index scores doc + weight) last
    ++ raised weight last docs (slice_set scores doc (slice_index scores doc + weight))

-- a document is touched once it has a score of at least 1
abbrev pub is_touched : ℕ → Bool
is_touched score = nat_lt 0 score

-- how many documents are touched
abbrev pub touched_count : List ℕ → ℕ
touched_count scores = count_by is_touched scores

-- how many pages of 256 documents hold so many documents; the last one need not be full
abbrev pub page_count : ℕ → ℕ
page_count docs = div_ceil docs 256

-- whether a page has a touched document
abbrev pub page_is_touched : List ℕ → ℕ → Bool
page_is_touched scores page = list_any is_touched (take 256 (drop (256 * page) scores))

-- how many pages have a touched document
abbrev pub touched_pages : List ℕ → ℕ
touched_pages scores = count_by (page_is_touched scores) (range_with_len 0 (page_count (length scores)))
