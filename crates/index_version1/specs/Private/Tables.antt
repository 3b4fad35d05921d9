-- What was read of a file, as plain data.
use Rattle.std.specs.Prelude.{ℕ, ◌≡◌, ◌<◌, ◌==◌, List, [], ◌∷◌, length, map, Option, Some, None, slice_index}
use Rattle.index_layout.specs.Heads.{HeadData, TermHeads}
use Rattle.index_layout.specs.Reading.{is_among}
use Rattle.index_version1.specs.declared.head.Head.{Head}
use Rattle.index_version1.specs.declared.old_term.OldTerm.{OldTerm}

-- a head
abbrev pub head_data : Head → HeadData
head_data h = record { impact = h.impact; count = h.count; codec = h.codec; size = h.size }

-- a term with its heads
abbrev pub term_heads : OldTerm → TermHeads
term_heads t = record { term = t.term; heads = map head_data t.heads }

-- the last of the terms, where there is one
abbrev pub before_of : List OldTerm → Option (List ℕ)
before_of [] = None
before_of (t ∷ []) = Some t.term
before_of (t ∷ u ∷ terms) = before_of (u ∷ terms)

-- a document is marked exactly where it is one of some
abbrev pub Marks : List ℕ → ℕ → List ℕ → Type 0
Marks seen mark docs = (doc : ℕ) → doc < length seen → (slice_index seen doc == mark) ≡ is_among docs doc
