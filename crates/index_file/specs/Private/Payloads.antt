-- What the tables of an opened file tell of its segments and their payloads.
use Rattle.std.specs.Prelude.{ℕ, ◌≡◌, ◌+◌, ◌*◌, ◌≤◌, ◌<◌, List, [], ◌∷◌, length, take, slice_index, slice_range}
use Rattle.std.specs.List.{sum_by}
use Rattle.index_model.specs.Index.{SegmentData, TermData}
use Rattle.index_layout.specs.Heads.{HeadData}
use Rattle.index_layout.specs.Reading.{docs_in}
use Rattle.index_file.specs.declared.term_row.TermRow.{TermRow}
use Rattle.index_file.specs.Private.Tables.{group_count, head_at, heads_between}
use Rattle.index_file.specs.Parts.{IsPayloadAt}

-- where the payload of the segment with a number begins, of a term whose first payload stands at a place: behind the
-- payloads of the segments before, whose sizes their heads tell
abbrev pub payload_place : List HeadData → ℕ → ℕ → ℕ
payload_place heads at s = at + sum_by (λ (h : HeadData). h.size) (take s heads)

-- the segment with a head, whose payload stands at a place
unfoldable pub segment_in : List ℕ → ℕ → HeadData → ℕ → SegmentData
segment_in bytes d h at = record { impact = h.impact; docs = docs_in bytes d h at }

-- the segments with these heads, whose payloads stand one after the other from a place on
abbrev pub segments_from : List ℕ → ℕ → List HeadData → ℕ → List SegmentData
segments_from bytes d [] at = []
segments_from bytes d (h ∷ heads) at = segment_in bytes d h at ∷ segments_from bytes d heads (at + h.size)

-- their payloads are there
abbrev pub ArePayloads : List ℕ → ℕ → List HeadData → ℕ → Type 0
ArePayloads bytes d heads at =
    (s : ℕ) → s < length heads → IsPayloadAt bytes d (head_at heads s) (payload_place heads at s)

-- the groups of payloads: where each of them begins with its first payload, so the first, the fifth and so on
pub record AreGroups (heads : List HeadData) (at : ℕ) (groups : List ℕ) : Type 0 where
  pub count : length groups ≡ group_count (length heads)
  pub told : (g : ℕ) → g < length groups → slice_index groups g ≡ payload_place heads at (4 * g)

-- where the first payload of a row's term begins
abbrev pub first_payload : List ℕ → TermRow → ℕ
first_payload groups row = slice_index groups row.group

-- the payloads of a row's term are there, which has these heads, and its groups tell where they begin
pub record IsPlaced (bytes : List ℕ) (d : ℕ) (groups : List ℕ) (row : TermRow) (heads : List HeadData) : Type 0 where
  pub payloads : ArePayloads bytes d heads (first_payload groups row)
  pub inside : row.group + group_count (length heads) ≤ length groups
  pub told : (g : ℕ) → g < group_count (length heads)
      → slice_index groups (row.group + g) ≡ payload_place heads (first_payload groups row) (4 * g)

-- the term between two rows with its segments
abbrev pub term_between : List ℕ → ℕ → List HeadData → List ℕ → List ℕ → TermRow → TermRow → TermData
term_between bytes d heads text groups a b = record {
  term = slice_range text a.text b.text;
  segments = segments_from bytes d (heads_between heads a b) (first_payload groups a);
}

-- the terms of rows with their segments
abbrev pub row_terms : List ℕ → ℕ → List HeadData → List ℕ → List ℕ → List TermRow → List TermData
row_terms bytes d heads text groups [] = []
row_terms bytes d heads text groups (a ∷ []) = []
row_terms bytes d heads text groups (a ∷ b ∷ rows) =
    term_between bytes d heads text groups a b ∷ row_terms bytes d heads text groups (b ∷ rows)
