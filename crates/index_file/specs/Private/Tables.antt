-- What the tables of an opened file say of its terms and their heads.
use Rattle.std.specs.Prelude.{ℕ, ◌≡◌, ◌+◌, ◌-◌, ◌/◌, ◌<◌, ◌≤◌, List, [], ◌∷◌, ◌++◌, length, Option, Some, None, slice_range}
use Rattle.std.specs.List.{slice_index_or}
use Rattle.segment_codecs.specs.declared.codec.Codec.TheVariants.{Varbyte}
use Rattle.index_layout.specs.Heads.{HeadData, TermHeads}
use Rattle.index_file.specs.declared.span.Span.{Span}
use Rattle.index_file.specs.declared.term_row.TermRow.{TermRow}

-- the head with a number
abbrev pub head_at : List HeadData → ℕ → HeadData
head_at heads i = slice_index_or heads i (record { impact = 0; count = 0; codec = Varbyte; size = 0 })

-- how many groups of four so many segments are, the last of which may have fewer
abbrev pub group_count : ℕ → ℕ
group_count segments = (segments + 3) / 4

-- a part of the text of all terms
unfoldable pub part_of : List ℕ → Span → List ℕ
part_of text s = slice_range text s.from s.to

abbrev pub IsSpan : List ℕ → Span → Type 0
IsSpan text s = (s.from ≤ s.to) × (s.to ≤ length text)

-- the term before, where there is one
abbrev pub before_in : List ℕ → Option Span → Option (List ℕ)
before_in text None = None
before_in text (Some s) = Some (part_of text s)

-- the row with a number
abbrev pub row_at : List TermRow → ℕ → TermRow
row_at rows i = slice_index_or rows i (record { text = 0; head = 0; group = 0 })

-- the heads between two rows
abbrev pub heads_between : List HeadData → TermRow → TermRow → List HeadData
heads_between heads a b = slice_range heads a.head b.head

-- the terms between neighbouring rows with their heads: one for each row but the last
abbrev pub row_heads : List HeadData → List ℕ → List TermRow → List TermHeads
row_heads heads text [] = []
row_heads heads text (a ∷ []) = []
row_heads heads text (a ∷ b ∷ rows) =
    record { term = slice_range text a.text b.text; heads = heads_between heads a b } ∷ row_heads heads text (b ∷ rows)

-- from one row on each term has a head or more; texts and heads rise to the end of all, and the groups of each term
-- follow those of the one before
abbrev pub RowsFrom : List HeadData → List ℕ → TermRow → List TermRow → Type 0
RowsFrom heads text a [] = (a.text ≡ length text) × (a.head ≡ length heads)
RowsFrom heads text a (b ∷ rows) =
    (a.text ≤ b.text) × (a.head < b.head) × (b.group ≡ a.group + group_count (b.head - a.head)) × RowsFrom heads text b rows

-- the rows of terms: the first is at the front, and the last at the end
abbrev pub AreRows : List HeadData → List ℕ → List TermRow → Type 0
AreRows heads text [] = ⊥
AreRows heads text (a ∷ rows) = (a.text ≡ 0) × (a.head ≡ 0) × (a.group ≡ 0) × RowsFrom heads text a rows

-- the rows of the terms read so far, and a last one where texts, heads and groups end
abbrev pub closed : List TermRow → List ℕ → List HeadData → ℕ → List TermRow
closed rows text heads groups = rows ++ record { text = length text; head = length heads; group = groups } ∷ []
