-- The postings of a term by rising document.
use Rattle.std.specs.Prelude.{ℕ, ◌≡◌, ◌+◌, ◌*◌, ◌==◌, Bool, true, false, replicate, List, [], ◌∷◌, drop, length, map, sum_by, count_by, if◌then◌else◌}
use Rattle.std.specs.List.{range_with_len}
use Rattle.index_model.specs.Index.{IndexData, SegmentData}
use Rattle.index_model.specs.Querying.{segments_at}
use Rattle.max_score.specs.declared.posting.Posting.{Posting}

-- a term, the number of documents, whether its postings have been read, and then the impact of each document, 0 where it
-- has none; the postings of documents below `from` are dropped
pub record CursorView : Type 0 where
  pub term : ℕ
  pub docs : ℕ
  pub started : Bool
  pub impacts : List ℕ
  pub from : ℕ

-- the postings of the documents that have an impact, of which the first has this number
abbrev pub postings_from : ℕ → List ℕ → List Posting
postings_from doc [] = []
postings_from doc (impact ∷ impacts) = if impact == 0 then postings_from (doc + 1) impacts else record { doc = doc; impact = impact } ∷ postings_from (doc + 1) impacts

-- the postings that are left
abbrev pub left_of : CursorView → List Posting
left_of cursor = postings_from cursor.from (drop cursor.from cursor.impacts)

-- the impact with which a document stands in some segments, 0 where it stands in none
abbrev pub impact_in : List SegmentData → ℕ → ℕ
impact_in segments doc = sum_by (λ (s : SegmentData). s.impact * count_by (λ d. d == doc) s.docs) segments

-- the impact of each of so many documents in some segments
abbrev pub impacts_of : ℕ → List SegmentData → List ℕ
impacts_of docs segments = map (impact_in segments) (range_with_len 0 docs)

-- the number of postings of some segments
abbrev pub postings_in : List SegmentData → ℕ
postings_in segments = sum_by (λ (s : SegmentData). length s.docs) segments

-- a cursor of a term that has read nothing
abbrev pub unread : ℕ → ℕ → CursorView
unread term docs = record { term = term; docs = docs; started = false; impacts = replicate docs 0; from = 0 }

-- a cursor that has read all postings of a term of an index, and dropped none
abbrev pub read_over : IndexData → ℕ → CursorView
read_over index term = record { term = term; docs = length index.names; started = true; impacts = impacts_of (length index.names) (segments_at index.terms term); from = 0 }

-- the same postings, of which others may be dropped
pub record IsSameCursor (old new : CursorView) : Type 0 where
  pub term : new.term ≡ old.term
  pub docs : new.docs ≡ old.docs
  pub started : new.started ≡ old.started
  pub impacts : new.impacts ≡ old.impacts
